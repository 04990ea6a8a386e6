-- Repair as the code makes it comes to repair of rules.
use Rattle.std.specs.Prelude.{◌≡◌, Bool, true, length, get_or, set, replicate, eqb, Result, Ok, Err}
use Rattle.std.proofs.Math.Path.{refl, sym, ap}
use Rattle.std.proofs.Common.{ap₂, ◌∙◌, subst}
use Rattle.std.proofs.Math.Bool.{false}
use mathlib.Core.List.{List, [], ◌∷◌, ◌++◌}
use Prim.Native.Nat.{ℕ, zero, suc, ◌+◌, ◌-◌, ◌*◌, ◌/◌, ◌%◌, ◌≤◌, ◌<◌}
use native.Mathlib.Omega.{arith}
use Rattle.std.proofs.Math.Decide.{dec_lt}
use borrow.Author.Tests.{lt-ltb, le-ltb, ne_eqb}
use Rattle.rules.specs.Bytes.{pick, over, two, six}
use Rattle.rules.specs.Stores.{store, stored}
use Rattle.rules.specs.Image.{index, address_of, adr, is_data, link_of, info_sector, info_first}
use Rattle.rules.specs.Directory.{directory_right, directory, slots, live, member, first, last_of, chain_record, start_in_slot, start_at, size_at}
use Rattle.rules.specs.Transfer.{linked}
use Rattle.rules.specs.Repair.{kept_from, kept_by, others, mend_slot, mend_file, links, mend_free, mended}
use Rattle.rules.specs.declared.NoSlot.{NoSlot}
use Rattle.rules.specs.declared.NoSlot.TheVariants.{Missing, Broken}
use Rattle.laws.specs.Bytes.{over-one}
use Rattle.laws.specs.Small.{Small, small_word}
use Rattle.laws.specs.Stores.{stored-append}
use Rattle.laws.specs.Addresses.{Shape}
use Rattle.laws.specs.Visits.{on_there, step_slot, visits, most_slots, first_slot, pass-first}
use Rattle.chains.specs.Tally.{tally, tally-head, tally-append}
use Rattle.chains.specs.Addresses.{absurd-bool, adr-zero, adr-is, index-adr, data-index}
use Rattle.chains.specs.Chain.{tally-last}
use Rattle.chains.specs.Directory.{directory-sound}
use Rattle.mending.specs.Kept.{Kept, kept-is}
use Rattle.mending.specs.Marks.{Marks, marks-more, marks-none, marks-low, marks-alike}
use Rattle.mending.specs.Place.{in_place, held_then, Spread, spread, small-next, once-next, spread-next, way_next, mended-in-place}
use Rattle.disk.specs.declared.Free.{Free}
use Rattle.repair.specs.Passes.{with_mark, with_marks, is_open, Walked, walked, on_walked, walk, slot_mended, Worked, worked, on_worked, file_mended, files_mended, Chained, chained, on_chained, before, in_front, no_free, chaining, free_mended}

-- ---- marks

marked-data : (S k : ℕ) (ms : List ℕ) → S ≤ k → with_mark S k ms ≡ set ms (k - S) 1
unfolding with_mark
marked-data S k ms h = rw (le-ltb k S h) (over-one ms (k - S) 1)

-- the marks of these sectors, of which those of track 0 have none
marks-of : (M S : ℕ) (ks ms held : List ℕ) → ((k : ℕ) → 1 ≤ tally k ks → k < (M + 1) * S) → Marks M S ms held → Marks M S (with_marks S ks ms) (ks ++ held)
unfolding with_mark with_marks
marks-of M S [] ms held g r = r
marks-of M S (k ∷ ks) ms held g r =
    marks-alike M S (with_marks S ks (with_mark S k ms)) (ks ++ k ∷ held) (k ∷ ks ++ held)
    (λ x. omega (arith, tally-append x ks (k ∷ held), tally-append x ks held))
    (marks-of M S ks (with_mark S k ms) (k ∷ held) (λ x t. g x (omega arith)) (go (dec_lt k S)))
  where
    go : Dec (k < S) → Marks M S (with_mark S k ms) (k ∷ held)
    go (yes h) = rw (lt-ltb k S h) (marks-low M S k ms held h r)
    go (no h) =
        subst (λ (x : List ℕ). Marks M S x (k ∷ held)) (sym (marked-data S k ms (omega arith)))
        (marks-more M S k ms held (omega arith) (g k (tally-head k ks)) r)

-- ---- what a file keeps

-- the address of the last of these sectors, e where there is none
abbrev last_adr : ℕ → List ℕ → ℕ → ℕ
last_adr S [] e = e
last_adr S (k ∷ l) e = adr S (last_of l k)

-- a walk that keeps l
record Walks (M S : ℕ) (held l : List ℕ) (e c : ℕ) (w : Walked) : Type 0 where
  pub after : List ℕ
  pub is : w ≡ walked (record { end = last_adr S l e; count = c + length l }) after
  pub marks : Marks M S after (l ++ held)

module _ (M S : ℕ) (z : Shape M S) (img : List ℕ) (small : Small img) where
  walks : (n : ℕ) (ms held : List ℕ) (a e c : ℕ) → a < 65536 → Marks M S ms held → Walks M S held (kept_from img M S n held a) e c (walk img M S n a e c ms)
  unfolding walk kept_from is_open
  walks zero ms held a e c b r =
      record { after = ms; is = ap (λ (x : ℕ). walked (record { end = e; count = x }) ms) (omega arith); marks = r }
  walks (suc n) ms held a e c b r =
      go (is_data M S a) refl (member (index S a) held) refl
      (λ q. walks n (with_mark S (index S a) ms) (index S a ∷ held) (link_of img (index S a)) a (c + 1) (small_word img (256 * index S a) small) q)
    where
      k : ℕ
      k = index S a

      l : List ℕ
      l = kept_from img M S n (k ∷ held) (link_of img k)

      on : Walked
      on = walk img M S n (link_of img k) a (c + 1) (with_mark S k ms)

      out : Walked
      out = walked (record { end = e; count = c }) ms

      none : Walks M S held [] e c out
      none = record { after = ms; is = ap (λ (x : ℕ). walked (record { end = e; count = x }) ms) (omega arith); marks = r }

      more : (ks : List ℕ) → a ≡ adr S k → last_adr S ks a ≡ adr S (last_of ks k)
      more [] h = h
      more (j ∷ ks) h = refl

      go : (u : Bool) → is_data M S a ≡ u → (v : Bool) → member k held ≡ v → (Marks M S (with_mark S k ms) (k ∷ held) → Walks M S (k ∷ held) l a (c + 1) on)
          → Walks M S held (pick u (pick v [] (k ∷ l)) []) e c (pick (is_open M S ms a) on out)
      go false d v h ih = rw d none
      go true d v h ih =
          let q = data-index M S z a b d in
          rw d (by (eqb (get_or ms (k - S) 0) 0) v (sym h ∙ r.says k q.1 q.2) q)
        where
          by : (o v : Bool) → v ≡ pick o false true → (adr S k ≡ a) × (S ≤ k) × (k < (M + 1) * S) → Walks M S held (pick v [] (k ∷ l)) e c (pick o on out)
          by true true y q = absurd-bool refl y
          by false false y q = absurd-bool y refl
          by false true y q = none
          by true false y q =
              let w = ih (subst (λ (x : List ℕ). Marks M S x (k ∷ held)) (sym (marked-data S k ms q.1)) (marks-more M S k ms held q.1 q.2 r)) in
              record {
                after = w.after;
                is = w.is
                    ∙ ap₂ (λ (x y : ℕ). walked (record { end = x; count = y }) w.after) (more l (sym q.0)) (omega arith);
                marks = marks-alike M S w.after (l ++ k ∷ held) (k ∷ l ++ held) (λ x. omega (arith, tally-append x l (k ∷ held), tally-append x l held)) w.marks;
              }

  -- ---- a slot, from what its file keeps

  slot-stored : (held : List ℕ) (o n a : ℕ) (l : List ℕ) → Kept M S z img held n a l
      → slot_mended img S o a (size_at img o) (record { end = last_adr S l 0; count = 0 + length l }) ≡ stored img (mend_slot img S o l)
  unfolding slot_mended chain_record linked
  slot-stored held o n a [] r = let at : o + start_in_slot ≡ 256 * (o / 256) + (o % 256 + start_in_slot) = omega arith in rw (adr-zero, at) refl
  slot-stored held o n a (k ∷ l) r =
      let at : o + start_in_slot ≡ 256 * (o / 256) + (o % 256 + start_in_slot) = omega arith in
      let c : 0 + suc (length l) ≡ suc (length l) = omega arith in
      let q = r.all (last_of l k) (tally-last (k ∷ l) 0 (omega arith)) in
      rw (c, ne_eqb (suc (length l)) 0 (omega arith), at, r.follows.0, index-adr M S z (last_of l k) (omega (arith, q.0, z.sectors)) q.1) refl

  -- image and marks after a file's stores, where it keeps l
  record Works (held l : List ℕ) (o : ℕ) (w : Worked) : Type 0 where
    pub after : List ℕ
    pub is : w ≡ worked (stored img (mend_file img S o l)) after
    pub marks : Marks M S after (l ++ held)

  works : (o : ℕ) (ms held : List ℕ) → Marks M S ms held → Works held (kept_by img M S held o) o (file_mended img M S o ms)
  unfolding file_mended kept_by mend_file
  works o ms held r = go (live img o) refl
    where
      n : ℕ
      n = size_at img o

      a : ℕ
      a = start_at img o

      go : (u : Bool) → live img o ≡ u → Works held (pick u (kept_from img M S n held a) []) o
          (pick u (on_walked (walk img M S n a 0 0 ms) (λ k ms'. worked (slot_mended img S o a n k) ms')) (worked img ms))
      go true q =
          let l = kept_from img M S n held a in
          let b : a < 65536 = small_word img (o + start_in_slot) small in
          let w = walks n ms held a 0 0 b r in
          record {
            after = w.after;
            is = ap (λ (x : Walked). on_walked x (λ k ms'. worked (slot_mended img S o a n k) ms')) w.is
                ∙ ap (λ (x : List ℕ). worked x w.after) (slot-stored held o n a l (kept-is M S z img small n held a b) ∙ rw q refl);
            marks = w.marks;
          }
      go false q = record { after = ms; is = rw q refl; marks = r }

-- ---- all files

step_same : (m m₁ : List ℕ) (M S o : ℕ) → link_of m₁ (o / 256) ≡ link_of m (o / 256) → step_slot m₁ M S o ≡ step_slot m M S o
unfolding step_slot
step_same m m₁ M S o e = rw e refl

-- the way from slot to slot is the same where the links of their sectors are
visits-same : (m m₁ : List ℕ) (M S n o : ℕ)
    → ((i : ℕ) → i < length (visits m M S n o) → link_of m₁ (get_or (visits m M S n o) i 0 / 256) ≡ link_of m (get_or (visits m M S n o) i 0 / 256))
    → visits m₁ M S n o ≡ visits m M S n o
unfolding visits
visits-same m m₁ M S zero o h = refl
visits-same m m₁ M S (suc n) o h =
    rw (step_same m m₁ M S o (h 0 (omega arith))) (go (step_slot m M S o) h (λ p g. visits-same m m₁ M S n p g))
  where
    Same : List ℕ → Type 0
    Same os = (i : ℕ) → i < length os → link_of m₁ (get_or os i 0 / 256) ≡ link_of m (get_or os i 0 / 256)

    go : (t : Result ℕ NoSlot) → Same (o ∷ on_there t [] (λ p. visits m M S n p)) → ((p : ℕ) → Same (visits m M S n p) → visits m₁ M S n p ≡ visits m M S n p)
        → ◌≡◌ {A = List ℕ} (o ∷ on_there t [] (λ p. visits m₁ M S n p)) (o ∷ on_there t [] (λ p. visits m M S n p))
    go (Ok p) g ih = ap (λ (l : List ℕ). o ∷ l) (ih p (λ i b. g (suc i) (omega arith)))
    go (Err Missing) g ih = refl
    go (Err Broken) g ih = refl

-- image and marks after all files' stores, made in the image
record Placed (M S : ℕ) (m held os : List ℕ) (w : Worked) : Type 0 where
  pub after : List ℕ
  pub is : w ≡ worked (in_place m M S held os) after
  pub marks : Marks M S after (held_then m M S held os)

module _ (M S : ℕ) (z : Shape M S) where
  places : (n o : ℕ) (m ms held : List ℕ) → Small m → Spread held (visits m M S n o) → ((x : ℕ) → tally x held ≤ 1) → Marks M S ms held
      → Placed M S m held (visits m M S n o) (files_mended M S n o m ms)
  unfolding files_mended visits in_place held_then
  places zero o m ms held small p h r = record { after = ms; is = refl; marks = r }
  places (suc n) o m ms held small p h r =
      let w = works M S z m small o ms held r in
      go (step_slot m M S o) refl p w
      (λ q s d. places n q (stored m (mend_file m S o (kept_by m M S held o))) w.after (kept_by m M S held o ++ held) s d (once-by-next p) w.marks)
    where
      l : List ℕ
      l = kept_by m M S held o

      m₁ : List ℕ
      m₁ = stored m (mend_file m S o l)

      once-by-next : Spread held (visits m M S (suc n) o) → (x : ℕ) → tally x (l ++ held) ≤ 1
      once-by-next d = once-next M S z m held o (on_there (step_slot m M S o) [] (λ q. visits m M S n q)) small d h

      next : List ℕ → Result ℕ NoSlot → Worked
      next ks t = on_there t (worked m₁ ks) (λ q. files_mended M S n q m₁ ks)

      go : (t : Result ℕ NoSlot) → step_slot m M S o ≡ t → Spread held (o ∷ on_there t [] (λ q. visits m M S n q)) → (w : Works M S z m small held l o (file_mended m M S o ms))
          → ((q : ℕ) → Small m₁ → Spread (l ++ held) (visits m₁ M S n q) → Placed M S m₁ (l ++ held) (visits m₁ M S n q) (files_mended M S n q m₁ w.after))
          → Placed M S m held (o ∷ on_there t [] (λ q. visits m M S n q))
          (on_worked (file_mended m M S o ms) (λ img' ms'. on_there (step_slot img' M S o) (worked img' ms') (λ q. files_mended M S n q img' ms')))
      go t e d w ih = by t d (ap (λ (x : Worked). on_worked x (λ img' ms'. on_there (step_slot img' M S o) (worked img' ms') (λ q. files_mended M S n q img' ms'))) w.is ∙ ap (next w.after) (way t d e))
        where
          way : (t : Result ℕ NoSlot) → Spread held (o ∷ on_there t [] (λ q. visits m M S n q)) → step_slot m M S o ≡ t → step_slot m₁ M S o ≡ t
          way t d e = step_same m m₁ M S o (way_next M S z m held o (on_there t [] (λ q. visits m M S n q)) small d h 0 (omega arith)) ∙ e

          by : (t : Result ℕ NoSlot) → Spread held (o ∷ on_there t [] (λ q. visits m M S n q)) → {y : Worked} → y ≡ next w.after t
              → Placed M S m held (o ∷ on_there t [] (λ q. visits m M S n q)) y
          by (Ok q) d f =
              let os : List ℕ = visits m M S n q in
              let v : visits m₁ M S n q ≡ os = visits-same m m₁ M S n q (λ i b. way_next M S z m held o os small d h (suc i) (omega arith)) in
              let x = subst (λ (ps : List ℕ). Placed M S m₁ (l ++ held) ps (files_mended M S n q m₁ w.after)) v
              (ih q (small-next M S z m held o os small d h) (subst (Spread (l ++ held)) (sym v) (spread-next M S z m held o os small d h))) in
              record { after = x.after; is = f ∙ x.is; marks = x.marks }
          by (Err Missing) d f = record { after = w.after; is = f; marks = w.marks }
          by (Err Broken) d f = record { after = w.after; is = f; marks = w.marks }

-- ---- the free chain

-- what the code has of a chain of these sectors
abbrev free_as : ℕ → List ℕ → Free
free_as S l = record { first = adr S (first l 0); last = adr S (last_of l 0); count = length l }

chained_same : (a a' b b' c c' : ℕ) (x x' : List ℕ) → a ≡ a' → b ≡ b' → c ≡ c' → x ≡ x'
    → chained (record { first = a; last = b; count = c }) x ≡ chained (record { first = a'; last = b'; count = c' }) x'
chained_same a a' b b' c c' x x' p q r s = rw (p, q, r, s) refl

module _ (M S : ℕ) (z : Shape M S) (m ms held : List ℕ) (r : Marks M S ms held) where
  -- one more sector before those that are linked
  put-before : (k : ℕ) (l : List ℕ) → 1 ≤ k → before S k (free_as S l) (stored m (links S l)) ≡ chained (free_as S (k ∷ l)) (stored m (links S (k ∷ l)))
  unfolding before linked links
  put-before k l h =
      chained_same _ _ _ _ _ _ _ _ (sym (adr-is S k h)) (last l) (omega arith) (sym (stored-append (links S l) (store k 0 (two (adr S (first l 0))) ∷ []) m))
    where
      last : (l : List ℕ) → pick (eqb (length l) 0) (address_of S k) (adr S (last_of l 0)) ≡ adr S (last_of l k)
      last [] = sym (adr-is S k h)
      last (j ∷ l) = rw (ne_eqb (suc (length l)) 0 (omega arith)) refl

  -- a sector put before those behind it, if it has no mark
  in-front : (n j : ℕ) → n < M * S
      → in_front S ms n (free_as S (others held j (S + n + 1))) (stored m (links S (others held j (S + n + 1))))
      ≡ chained (free_as S (others held (suc j) (S + n))) (stored m (links S (others held (suc j) (S + n))))
  unfolding in_front others
  in-front n j b =
      let i : S + n - S ≡ n = omega arith in
      go (eqb (get_or ms n 0) 0) (member (S + n) held) (r.says (S + n) (omega arith) (omega arith) ∙ ap (λ (x : ℕ). pick (eqb (get_or ms x 0) 0) false true) i)
    where
      l : List ℕ
      l = others held j (S + n + 1)

      go : (o v : Bool) → v ≡ pick o false true
          → pick o (before S (S + n) (free_as S l) (stored m (links S l))) (chained (free_as S l) (stored m (links S l)))
          ≡ chained (free_as S (pick v l ((S + n) ∷ l))) (stored m (links S (pick v l ((S + n) ∷ l))))
      go true true y = absurd-bool refl y
      go false false y = absurd-bool y refl
      go false true y = refl
      go true false y = put-before (S + n) l (omega (arith, z.sectors))

  chain-is : (n j : ℕ) → n + j ≡ M * S
      → chaining S ms n (free_as S (others held j (S + n))) (stored m (links S (others held j (S + n))))
      ≡ chained (free_as S (others held (M * S) S)) (stored m (links S (others held (M * S) S)))
  unfolding chaining
  chain-is zero j e =
      let p : S + 0 ≡ S = omega arith in
      let q : j ≡ M * S = omega arith in
      rw (p, q) refl
  chain-is (suc n) j e =
      let p : S + suc n ≡ S + n + 1 = omega arith in
      rw p (ap (λ (x : Chained). on_chained x (λ f' img'. chaining S ms n f' img')) (in-front n j (omega arith)) ∙ chain-is n (suc j) (omega arith))

  free-is : free_mended M S ms m ≡ stored m (mend_free S (others held (M * S) S))
  unfolding free_mended mend_free others links chain_record
  free-is =
      let e : chaining S ms (M * S) no_free m ≡ chained (free_as S (others held (M * S) S)) (stored m (links S (others held (M * S) S)))
      = rw adr-zero at (chain-is (M * S) 0 (omega arith)) in
      ap (λ (x : Chained). on_chained x (λ f img'. over img' (256 * info_sector + info_first) (six f.first f.last f.count))) e
      ∙ sym (stored-append (links S (others held (M * S) S)) (store info_sector info_first (chain_record S (others held (M * S) S)) ∷ []) m)

-- ---- the whole

module _ (M S : ℕ) (z : Shape M S) (img : List ℕ) (small : Small img) (right : directory_right img M S ≡ true) where
  pub mend-is : (ms : List ℕ) {ms₁ ms₂ ms₃ img₁ img₂ : List ℕ} → length ms ≡ M * S → ms₁ ≡ replicate (length ms) 0
      → ms₂ ≡ with_marks S (directory img M S) ms₁ → worked img₁ ms₃ ≡ files_mended M S (most_slots M S) first_slot img ms₂
      → img₂ ≡ free_mended M S ms₃ img₁ → img₂ ≡ mended img M S
  mend-is ms {ms₁} {ms₂} {ms₃} {img₁} {img₂} h a b c d =
      let held : List ℕ = directory img M S in
      let ls = (directory-sound M S z img small.at right).0 in
      let mk : Marks M S ms₁ [] = subst (λ (x : List ℕ). Marks M S x []) (sym a) (marks-none M S (length ms) (omega arith)) in
      let marks : Marks M S ms₂ held = subst (λ (x : List ℕ). Marks M S x held) (sym b)
      (marks-alike M S (with_marks S held ms₁) (held ++ []) held (λ x. omega (arith, tally-append x held [])) (marks-of M S held ms₁ [] ls.high mk)) in
      let e : slots img M S ≡ visits img M S (most_slots M S) first_slot = pass-first (λ os. os) img M S (most_slots M S) refl in
      let w : Placed M S img held (slots img M S) (files_mended M S (most_slots M S) first_slot img ms₂)
      = subst (λ (os : List ℕ). Placed M S img held os (files_mended M S (most_slots M S) first_slot img ms₂)) (sym e)
      (places M S z (most_slots M S) first_slot img ms₂ held small (subst (Spread held) e (spread M S z held ls)) ls.once marks) in
      let q : worked img₁ ms₃ ≡ worked (in_place img M S held (slots img M S)) w.after = c ∙ w.is in
      let i : img₁ ≡ in_place img M S held (slots img M S) = cc in
      let j : ms₃ ≡ w.after = cc in
      d
      ∙ ap₂ (free_mended M S) j i
      ∙ free-is M S z (in_place img M S held (slots img M S)) w.after (held_then img M S held (slots img M S)) w.marks
      ∙ sym (mended-in-place M S z img small ls)
