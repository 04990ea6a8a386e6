-- ALL OR NOTHING, FILE BY FILE: where every file is as before the call, or every file is as after it, what a file has that the call leaves, deletes, renames
-- or writes.
use Rattle.std.specs.Prelude.{◌≡◌, refl, ◌≢◌, ◌⊎◌, Bool, true, false, List, [], ◌∷◌, ◌++◌, ℕ, ◌+◌, ◌<◌, length, get_or, set, eqb}
use Rattle.std.proofs.Common.{sym, ◌∙◌, inl, inr, append-nil, append_assoc, arith, length-append, get_or-set_same, eq-eqb, ne_eqb, eqb-true}
use Rattle.std.proofs.Math.Path.{ap, subst}
use Rattle.std.proofs.Math.Decide.{ℕ_discrete, dec_lt}
use Rattle.std.proofs.Math.ListN.{get_or-append}
use Rattle.rules.specs.Bytes.{pick, same, zeros, flat}
use Rattle.rules.specs.Image.{last_track, per_track}
use Rattle.rules.specs.Stores.{Put}
use Rattle.rules.specs.Directory.{live, directory, slots_of}
use Rattle.laws.specs.Bytes.{length_part, same_refl}
use Rattle.laws.specs.Slots.{live_at}
use Rattle.laws.specs.Addresses.{Shape}
use Rattle.laws.specs.Tests.{both, pick_all, pick-cases}
use Rattle.chains.specs.Addresses.{absurd-bool}
use Rattle.chains.specs.Chain.{set_last, contents, empty}
use Rattle.chains.specs.Directory.{directory-is}
use Rattle.chains.specs.Walk.{chain_at}
use Rattle.demands.specs.Ledger.{Call, setting, extending, asking, File, no_file, writing, Ledger, file, block, Request, asks, Fate, denied, granted, reply, holds_open, with_new, with_last, with_mark, with_name, pad_to, taken, transferred, shut_block, called}
use Rattle.demands.specs.Diskette.{ledger_of, files_at}
use Rattle.demands.specs.Service.{flex, Machine, answers, next, entry, run}
use Rattle.demands.specs.History.{Scene, then, on_call, hits, Plain, concat, front}
use Rattle.demands.specs.Demands.{last_track_of, per_track_of, sectors_in, place_in, chain_of, Begins, AsItWas, begun, told, past, Start}
use Rattle.demands.specs.Repairs.{mended, LiveFile, bytes_of}
use Rattle.demands.specs.Cuts.{left_with, mended_of, unused_in, Recovered, scene_after, writes_slot, new_name, complete, Renamed, AfterCut}
use Rattle.met.specs.Relation.{opens, Agrees}
use Rattle.met.specs.Meets.{Sure, ledger_by}
use Rattle.met.specs.Searches.{marked-dead}
use Rattle.met.specs.Opens.{legal-live}
use Rattle.met.specs.Tidy.{found_name}
use Rattle.met.specs.Survey.{file-back}
use Rattle.met.specs.Changes.{Change, Changes, changes, Slot, kept, own, fresh, lost, moved, slot-fate, rename-legal, of-writer, own-live}
use Rattle.met.specs.Joins.{run_more, history-more, plain_more, plain-before}
use Rattle.met.proofs.Runs.{scene_of, Fine, Likewise, asked, beyond, likewise-set, likewise-extend, likewise-refused, likewise-asked, step, always, start-shape, start_fine}
use Rattle.met.proofs.Sent.{concat-snoc, concat-last, other-call}
use Rattle.met.proofs.Stays.{then-onward, slot-stood, spared-name, spared-rest, spared-entry, spared-chain, spared-sectors}
use Rattle.met.proofs.Third.{begins}

-- ---- an image m that agrees with a ledger b, beside a machine y that agrees with a: what slot s of y is there, by what the two ledgers have in it

flat-concat : (ds : List (List ℕ)) → flat (λ d. d) ds ≡ concat ds
flat-concat [] = refl
flat-concat (d ∷ ds) = ap (λ (l : List ℕ). d ++ l) (flat-concat ds)

module _ (y : Machine) (a : Ledger) (z : Shape (last_track_of y) (per_track_of y)) (r : Agrees (last_track_of y) (per_track_of y) y.img y.tab a) where
  abbrev M : ℕ
  M = last_track_of y

  abbrev S : ℕ
  S = per_track_of y

  here : directory y.img M S ≡ a.dir
  here = (directory-is M S z y.img a.dir r.listing r.dir).1

  place : (s : ℕ) → place_in y s ≡ get_or (slots_of a.dir) s 0
  place s = ap (λ (ds : List ℕ). get_or (slots_of ds) s 0) here

  -- a live file of y is one of the ledger
  pub live-file : (s : ℕ) → LiveFile y s → (s < length a.slots) × (live (file a s).name 0 ≡ true)
  live-file s v =
      let h : s < length (slots_of a.dir) = omega (arith, v.slot, ap (λ (ds : List ℕ). length (slots_of ds)) here) in
      let e = live_at y.img (file a s).name (get_or (slots_of a.dir) s 0) (r.holds s h).name in
      (omega (arith, h, r.ns), sym e ∙ ap (live y.img) (sym (place s)) ∙ v.alive)

  module _ (m tab : List ℕ) (b : Ledger) (r' : Agrees (last_track_of y) (per_track_of y) m tab b) (s : ℕ) (low : s < length a.slots) (low' : s < length b.slots) where
    hs : s < length (slots_of a.dir)
    hs = omega (arith, low, r.ns)

    hs' : s < length (slots_of b.dir)
    hs' = omega (arith, low', r'.ns)

    stood : (file b s).at ≡ (file a s).at → get_or (slots_of b.dir) s 0 ≡ get_or (slots_of a.dir) s 0
    stood e = sym (r'.holds s hs').at ∙ e ∙ (r.holds s hs).at

    module _ (nm : List ℕ) (e : file b s ≡ with_name (file a s) nm) (v : live (file a s).name 0 ≡ true) (v' : live nm 0 ≡ true) where
      abbrev at_same : get_or (slots_of b.dir) s 0 ≡ get_or (slots_of a.dir) s 0
      at_same = stood (ap (λ (f : File). f.at) e)

      as-renamed : Renamed y m s nm
      as-renamed = record {
        name = rw (place s) (spared-name M S z y.img y.tab m tab a b r r' s hs hs' at_same nm e v v');
        slot = rw (place s) (spared-rest M S z y.img y.tab m tab a b r r' s hs hs' at_same nm e v v');
        sectors = rw (place s) (spared-chain M S z y.img y.tab m tab a b r r' s hs hs' at_same nm e v v');
        bytes = rw (place s) (spared-sectors M S z y.img y.tab m tab a b r r' s hs hs' at_same nm e v v');
      }

      as-named : nm ≡ (file a s).name → AsItWas y m s
      as-named same_name = record {
        slot = rw (place s) (spared-entry M S z y.img y.tab m tab a b r r' s hs hs' at_same nm e v v' same_name);
        sectors = rw (place s) (spared-chain M S z y.img y.tab m tab a b r r' s hs hs' at_same nm e v v');
        bytes = rw (place s) (spared-sectors M S z y.img y.tab m tab a b r r' s hs hs' at_same nm e v v');
      }

    pub as_it_was : file b s ≡ file a s → live (file a s).name 0 ≡ true → AsItWas y m s
    as_it_was e v = as-named (file a s).name e v v refl

    as-gone : file b s ≡ with_mark (file a s) → live m (place_in y s) ≡ false
    as-gone e =
        let long : length (file a s).name ≡ 11 = ap length (sym (r.holds s hs).name) ∙ length_part y.img (get_or (slots_of a.dir) s 0) 11 in
        ap (live m) (place s ∙ sym (stood (ap (λ (f : File). f.at) e))) ∙ live_at m (file b s).name (get_or (slots_of b.dir) s 0) (r'.holds s hs').name
        ∙ ap (λ (f : File). live f.name 0) e ∙ marked-dead (file a s).name (omega (arith, long))

    -- the bytes of a live file
    as_bytes : (file b s).at ≡ (file a s).at → live (file b s).name 0 ≡ true → bytes_of y m s ≡ concat (file b s).body
    as_bytes e v =
        flat-concat (contents m (chain_of y m s)) ∙ ap concat (
        ap (λ (o : ℕ). contents m (chain_at S m (o + 13))) (place s ∙ sym (stood e)) ∙ ap (contents m) (file-back M S z m tab b r' s hs' v).0
        ∙ sym (r'.holds s hs').body)

-- ---- the ledger of the image that repair leaves: it has the slots of a

pub record FoundAgain (y : Machine) (a : Ledger) (m tab : List ℕ) : Type 0 where
  pub ledger : Ledger
  pub agrees : Agrees (last_track_of y) (per_track_of y) m tab ledger
  pub low : (s : ℕ) → s < length a.slots → s < length ledger.slots
  pub same : (s : ℕ) → s < length a.slots → file ledger s ≡ file a s

-- of a machine y₁ of the shape of y
module _ (y y₁ : Machine) (a : Ledger) (most : ℕ) (m tab : List ℕ) (el : last_track_of y₁ ≡ last_track_of y) (ep : per_track_of y₁ ≡ per_track_of y)
    (k : Recovered flex y₁ a most m tab) where
  abbrev img : List ℕ
  img = mended_of flex m tab

  abbrev found : Ledger
  found = begun (mended flex (left_with m tab))

  all_slots : found.slots ≡ a.slots ++ unused_in k.gained
  unfolding ledger_of
  all_slots =
      ap (λ (M : ℕ). files_at (per_track img) img (slots_of (directory img M (per_track img)))) k.shape.0
      ∙ ap (λ (S : ℕ). files_at S img (slots_of (directory img (last_track_of y₁) S))) k.shape.1 ∙ k.files

  pub found-again : FoundAgain y a img tab
  found-again = record {
    ledger = found;
    agrees = subst (λ (M : ℕ). Agrees M (per_track_of y) img tab found) (k.shape.0 ∙ el)
        (subst (λ (S : ℕ). Agrees (last_track img) S img tab found) (k.shape.1 ∙ ep) (start_fine (mended flex (left_with m tab)) k.begins).agrees);
    low = λ s h. omega (arith, h, ap length all_slots, length-append a.slots (unused_in k.gained));
    same = λ s h. ap (λ (fs : List File). get_or fs s no_file) all_slots ∙ get_or-append a.slots (unused_in k.gained) no_file s h;
  }

-- ---- what the call does to slot s, a live file, in the ledger

data Fares (a a' : Ledger) (sc : Scene) (s : ℕ) : Type 0 where
  stays : file a' s ≡ file a s → Fares a a' sc s
  works : writes_slot a sc.made s ≡ true → hits 12 (file a s).name sc ≡ false → hits 13 (file a s).name sc ≡ false → Fares a a' sc s
  goes : hits 12 (file a s).name sc ≡ true → file a' s ≡ with_mark (file a s) → Fares a a' sc s
  turns : hits 13 (file a s).name sc ≡ true → file a' s ≡ with_name (file a s) (new_name a sc.made) → live (new_name a sc.made) 0 ≡ true → Fares a a' sc s

like-file : (a a' : Ledger) (s : ℕ) → Likewise a a' → file a' s ≡ file a s
like-file a a' s l = ap (λ (fs : List File). get_or fs s no_file) l.slots

-- delete and rename are not for a block that writes
not_named : (M S : ℕ) (a : Ledger) (n : ℕ) (q : Request) (s : ℕ) (ub : List ℕ) → block a n ≡ writing s ub → (v : ℕ) (a' : Ledger) (ps : List Put)
    → called M S a n q ≡ granted v a' ps → (q.code ≢ 12) × (q.code ≢ 13)
not_named M S a n q s ub w v a' ps e =
    subst Other e
    (of-writer M S a n q s ub w Other (λ x. tt) (λ c. by (transferred M S a n q (writing s ub)) (omega (arith, c)) (omega (arith, c)))
    (λ c. by (shut_block M S a n q (writing s ub)) (omega (arith, c)) (omega (arith, c))))
  where
    Other : Fate → Type 0
    Other (denied x) = Unit {0}
    Other (granted x a' ps) = (q.code ≢ 12) × (q.code ≢ 13)

    by : (φ : Fate) → q.code ≢ 12 → q.code ≢ 13 → Other φ
    by (denied x) h k = tt
    by (granted x a' ps) h k = (h, k)

module _ (M S : ℕ) (z : Shape M S) (y : Machine) (a : Ledger) (f : Fine M S y a) (s : ℕ) (low : s < length a.slots) (v : live (file a s).name 0 ≡ true) where
  abbrev thereafter : Call → Ledger
  thereafter c = then M S a (entry flex y c)

  -- accepted, of one of the eight blocks
  module _ (n b : ℕ) (hn : n < 8) (ok : answers flex y (asking n b) ≡ 0) where
    abbrev q : Request
    q = asks a n b

    hit : (code : ℕ) → q.code ≡ code → q.name ≡ (file a s).name → hits code (file a s).name (scene_of M S y a (asking n b)) ≡ true
    hit code c e = rw (eq-eqb (answers flex y (asking n b)) 0 ok, eq-eqb (asks a n b).code code c, e) (same_refl (file a s).name)

    miss : (code : ℕ) → q.code ≢ code → hits code (file a s).name (scene_of M S y a (asking n b)) ≡ false
    miss code c = rw (eq-eqb (answers flex y (asking n b)) 0 ok, ne_eqb (asks a n b).code code c) refl

    fares-slot : (w : ℕ) (a' : Ledger) (ps : List Put) → called M S a n q ≡ granted w a' ps → Change a n q a' → Likewise a' (thereafter (asking n b)) → Slot a a' n q s
        → Fares a (thereafter (asking n b)) (scene_of M S y a (asking n b)) s
    fares-slot w a' ps e ch l (kept p k) = stays (like-file a' _ s l ∙ p)
    fares-slot w a' ps e ch l (own ub p) =
        let k = not_named M S a n q s ub p w a' ps e in
        works (ap (holds_open false s) p ∙ eq-eqb s s refl) (miss 12 k.0) (miss 13 k.1)
    fares-slot w a' ps e ch l (fresh p) = absurd-bool v p
    fares-slot w a' ps e ch l (lost c p by g) = goes (hit 12 c (found_name q.name a.slots f.tidy s p)) (like-file a' _ s l ∙ g low)
    fares-slot w a' ps e ch l (moved c p by g) =
        turns (hit 13 c (found_name q.name a.slots f.tidy s p)) (like-file a' _ s l ∙ g low)
        (legal-live q.rename (rename-legal a a' n q ch c))

    fares-accepted : Fares a (thereafter (asking n b)) (scene_of M S y a (asking n b)) s
    fares-accepted =
        let st = asked M S z y a f n b hn in
        by (called M S a n q) refl (changes M S a n q) st.sure st.ans (likewise-asked M S y a n b st)
      where
        by : (φ : Fate) → called M S a n q ≡ φ → Changes a n q φ → Sure φ → answers flex y (asking n b) ≡ reply φ → Likewise (ledger_by a φ) (thereafter (asking n b))
            → Fares a (thereafter (asking n b)) (scene_of M S y a (asking n b)) s
        by (denied w) e ch su an l = absurd (su (sym an ∙ ok))
        by (granted w a' ps) e ch su an l = fares-slot w a' ps e ch l (slot-fate a a' n q ch s)

  fares : (c : Call) → Fares a (thereafter c) (scene_of M S y a c) s
  unfolding entry
  fares (setting n i w) = stays (like-file a _ s (likewise-set M S a n i w _ _))
  fares (extending n w) = stays (like-file a _ s (likewise-extend M S a n w _ _))
  fares (asking n b) = go (ℕ_discrete (answers flex y (asking n b)) 0) (dec_lt n 8)
    where
      go : Dec (answers flex y (asking n b) ≡ 0) → Dec (n < 8) → Fares a (thereafter (asking n b)) (scene_of M S y a (asking n b)) s
      go (no e) h = stays (like-file a _ s (likewise-refused M S a n b _ _ e))
      go (yes e) (no h) = absurd (omega (arith, e, beyond M S z y a f n b (omega arith)))
      go (yes e) (yes h) = fares-accepted n b h e

-- one call is not both
not-both : (nm : List ℕ) (sc : Scene) → hits 12 nm sc ≡ true → hits 13 nm sc ≡ true → ⊥
not-both nm sc h k = go sc.made (both (eqb sc.ans 0) _ h).1 (both (eqb sc.ans 0) _ k).1
  where
    hit-by : ℕ → Call → Bool
    hit-by code c = on_call c false (λ m b. pick (eqb (asks sc.before m b).code code) (same (asks sc.before m b).name nm) false)

    go : (c : Call) → hit-by 12 c ≡ true → hit-by 13 c ≡ true → ⊥
    go (setting n i w) h k = absurd-bool h refl
    go (extending n w) h k = absurd-bool h refl
    go (asking n b) h k =
        let q = asks sc.before n b in
        let e = eqb-true q.code 12 (both (eqb q.code 12) _ h).0 in
        let g = eqb-true q.code 13 (both (eqb q.code 13) _ k).0 in
        omega (arith, e, g)

-- ---- what it does to a file that a block writes, the block's own call or another: it has the complete sectors that it had

data Grows (f g : File) (ub : List ℕ) : Type 0 where
  none : complete f ub ≡ [] → Grows f g ub
  onto : g.at ≡ f.at → g.name ≡ f.name → Begins (complete f ub) (concat g.body) → Grows f g ub

-- the front of the sectors, and all of them
front-last : (ds : List (List ℕ)) → (l : List ℕ) × (concat ds ≡ concat (front ds) ++ l)
front-last [] = ([], refl)
front-last (d ∷ []) = (d, append-nil d)
front-last (d ∷ e ∷ ds) =
    let q = front-last (e ∷ ds) in (q.0, ap (λ (l : List ℕ). d ++ l) q.1 ∙ sym (append_assoc d (concat (front (e ∷ ds))) q.0))

grows_same : (f : File) (ub : List ℕ) → Grows f f ub
grows_same f ub =
    let q = front-last f.body in
    onto refl refl (pick_all (λ (l : List ℕ). Begins l (concat f.body)) (eqb (length ub) 0) (concat f.body) (concat (front f.body))
    (begins (concat f.body) [] (concat f.body) (sym (append-nil (concat f.body)))) (begins (concat (front f.body)) q.0 (concat f.body) q.1))

-- a last sector that was not full is stored
grows-last : (f : File) (ub d : List ℕ) → eqb (length ub) 0 ≡ false → Grows f (with_last f d) ub
grows-last f ub d h = onto refl refl (rw h (go f.body))
  where
    go : (ds : List (List ℕ)) → Begins (concat (front ds)) (concat (set_last ds d))
    go [] = refl
    go (e ∷ ds) = begins (concat (front (e ∷ ds))) d (concat (set_last (e ∷ ds) d)) (concat-last (e ∷ ds) d (omega arith))

module _ (M S : ℕ) (z : Shape M S) (y : Machine) (a : Ledger) (f : Fine M S y a) (n s : ℕ) (ub : List ℕ) (hn : n < 8) (w : block a n ≡ writing s ub) where
  abbrev Own : Fate → Type 0
  Own (denied e) = Unit {0}
  Own (granted v a' ps) = Grows (file a s) (file a' s) ub

  low-own : s < length a.slots
  low-own = (own-live M S y.img y.tab a f.agrees n hn s ub w).0

  put_in : (g : File) → Grows (file a s) g ub → Grows (file a s) (get_or (set a.slots s g) s no_file) ub
  put_in g k = subst (λ (h : File). Grows (file a s) h ub) (sym (get_or-set_same a.slots s g no_file low-own)) k

  module _ (q : Request) where
    new-sector : eqb (length ub) 0 ≡ true → (fr : List ℕ) → Own (taken M S a n q s fr)
    new-sector h [] = tt
    new-sector h (k ∷ fr) =
        let ds = (file a s).body in
        put_in (with_new S (file a s) k) (onto refl refl (rw h (begins (concat ds) (zeros 252) (concat (ds ++ zeros 252 ∷ [])) (concat-snoc ds (zeros 252)))))

    sends : Own (transferred M S a n q (writing s ub))
    sends =
        pick-cases Own (eqb (length ub) 0) _ _ (λ h. new-sector h a.free)
        (λ h. let d = pad_to 251 ub ++ q.byte ∷ [] in
        pick_all Own (eqb (length ub) 251) _ _ (put_in (with_last (file a s) d) (grows-last (file a s) ub d h)) (grows_same (file a s) ub))

    -- a file without sectors has no bytes
    no_bytes : length (file a s).secs ≡ 0 → complete (file a s) ub ≡ []
    no_bytes e =
        let hs : s < length (slots_of a.dir) = omega (arith, low-own, f.agrees.ns) in
        let b : (file a s).body ≡ [] = (f.agrees.holds s hs).body ∙ ap (contents y.img) (empty (file a s).secs e) in
        ap (λ (ds : List (List ℕ)). pick (eqb (length ub) 0) (concat ds) (concat (front ds))) b
        ∙ pick_all (λ (l : List ℕ). l ≡ []) (eqb (length ub) 0) [] [] refl refl

    shuts : Own (shut_block M S a n q (writing s ub))
    shuts =
        pick-cases Own (eqb (length (file a s).secs) 0) _ _ (λ h. none (no_bytes (eqb-true (length (file a s).secs) 0 h)))
        (λ k. pick-cases Own (eqb (length ub) 0) _ _ (λ h. grows_same (file a s) ub)
        (λ h. put_in (with_last (file a s) (pad_to 252 ub)) (grows-last (file a s) ub (pad_to 252 ub) h)))

    own-grows : Own (called M S a n q)
    own-grows = of-writer M S a n q s ub w Own (λ e. tt) (λ c. sends) (λ c. shuts)

  abbrev Now : Call → Type 0
  Now c = Grows (file a s) (file (then M S a (entry flex y c)) s) ub

  left_so : (a' a'' : Ledger) → Likewise a' a'' → Grows (file a s) (file a' s) ub → Grows (file a s) (file a'' s) ub
  left_so a' a'' l k = subst (λ (h : File). Grows (file a s) h ub) (sym (like-file a' a'' s l)) k

  grows-own : (b : ℕ) → Now (asking n b)
  unfolding entry
  grows-own b = go (ℕ_discrete (answers flex y (asking n b)) 0)
    where
      by : (φ : Fate) → Own φ → Sure φ → answers flex y (asking n b) ≡ reply φ → answers flex y (asking n b) ≡ 0 → Grows (file a s) (file (ledger_by a φ) s) ub
      by (denied v) k su an e = absurd (su (sym an ∙ e))
      by (granted v a' ps) k su an e = k

      go : Dec (answers flex y (asking n b) ≡ 0) → Now (asking n b)
      go (no e) = left_so a _ (likewise-refused M S a n b _ _ e) (grows_same (file a s) ub)
      go (yes e) =
          let st = asked M S z y a f n b hn in
          left_so (ledger_by a (called M S a n (asks a n b))) _ (likewise-asked M S y a n b st)
          (by (called M S a n (asks a n b)) (own-grows (asks a n b)) st.sure st.ans e)

  grows : (c : Call) → Now c
  unfolding entry
  grows (setting m i v) = left_so a _ (likewise-set M S a m i v _ _) (grows_same (file a s) ub)
  grows (extending m v) = left_so a _ (likewise-extend M S a m v _ _) (grows_same (file a s) ub)
  grows (asking m b) = go (ℕ_discrete m n)
    where
      go : Dec (m ≡ n) → Now (asking m b)
      go (yes e) = subst (λ (k : ℕ). Now (asking k b)) (sym e) (grows-own b)
      go (no e) = subst (λ (h : File). Grows (file a s) h ub) (sym (other-call M S z y a f m b n s hn e (ap opens w)).same_file) (grows_same (file a s) ub)

-- ---- THE READINGS

module _ (x : Machine) (st : Start x) (cs : List Call) (c : Call) (p : Plain (past flex x (cs ++ c ∷ []))) (m tab : List ℕ) where
  abbrev M₀ : ℕ
  M₀ = last_track_of x

  abbrev S₀ : ℕ
  S₀ = per_track_of x

  abbrev y : Machine
  y = run flex x cs

  abbrev y' : Machine
  y' = run flex x (cs ++ c ∷ [])

  abbrev a : Ledger
  a = told flex x cs

  abbrev a' : Ledger
  a' = then (last_track_of x) (per_track_of x) (told flex x cs) (entry flex (run flex x cs) c)

  abbrev W : List ℕ
  W = mended_of flex m tab

  z₀ : Shape M₀ S₀
  z₀ = start-shape x st

  f : Fine M₀ S₀ y a
  f = (always M₀ S₀ z₀ cs x (begun x) (start_fine x st) (plain-before M₀ S₀ flex cs (c ∷ []) x (begun x) p)).0

  f' : Fine M₀ S₀ (next flex y c) a'
  f' = (step M₀ S₀ z₀ y a f c).fine (plain_more M₀ S₀ flex cs x (begun x) c p)

  -- by the shape of y
  z : Shape (last_track_of y) (per_track_of y)
  z = subst (λ (M : ℕ). Shape M (per_track_of y)) (sym f.agrees.shaped.last) (subst (λ (S : ℕ). Shape M₀ S) (sym f.agrees.shaped.per) z₀)

  r : Agrees (last_track_of y) (per_track_of y) y.img y.tab a
  r =
      subst (λ (M : ℕ). Agrees M (per_track_of y) y.img y.tab a) (sym f.agrees.shaped.last)
      (subst (λ (S : ℕ). Agrees M₀ S y.img y.tab a) (sym f.agrees.shaped.per) f.agrees)

  -- the image that repair leaves has the slots from before the call, or from after it
  abbrev Left : Type 0
  Left = FoundAgain y a W tab ⊎ FoundAgain y a' W tab

  left : Recovered flex y a 1 m tab ⊎ Recovered flex y' (told flex x (cs ++ c ∷ [])) 0 m tab → Left
  left (inl k) = inl (found-again y y a 1 m tab refl refl k)
  left (inr k) =
      inr (subst (λ (h : Ledger). FoundAgain y h W tab) (history-more M₀ S₀ flex cs x (begun x) c)
      (found-again y y' (told flex x (cs ++ c ∷ [])) 0 m tab
      (ap (λ (w : Machine). last_track_of w) (run_more M₀ S₀ flex cs x (begun x) c) ∙ f'.agrees.shaped.last ∙ sym f.agrees.shaped.last)
      (ap (λ (w : Machine). per_track_of w) (run_more M₀ S₀ flex cs x (begun x) c) ∙ f'.agrees.shaped.per ∙ sym f.agrees.shaped.per) k))

  -- no slot is given back
  low-after : (s : ℕ) → s < length a.slots → s < length a'.slots
  low-after s h =
      omega (arith, (slot-stood S₀ a a' (then-onward M₀ S₀ z₀ y a f c) s (omega (arith, h, f.agrees.ns))).0, f'.agrees.ns)

  module _ (s : ℕ) (v : LiveFile (run flex x cs) s) where
    low : s < length a.slots
    low = (live-file y a z r s v).0

    alive : live (file a s).name 0 ≡ true
    alive = (live-file y a z r s v).1

    fate-of : Fares a a' (scene_after flex x cs c) s
    fate-of = fares M₀ S₀ z₀ y a f s low alive c

    unchanged : (h : Ledger) (k : FoundAgain y h W tab) → s < length h.slots → file h s ≡ file a s → AsItWas y W s
    unchanged h k l e = as_it_was y a z r W tab k.ledger k.agrees s low (k.low s l) (k.same s l ∙ e) alive

    others : writes_slot a c s ≡ false → hits 12 (file a s).name (scene_after flex x cs c) ≡ false → hits 13 (file a s).name (scene_after flex x cs c) ≡ false
        → Left → AsItWas y W s
    others hw h12 h13 (inl k) = unchanged a k low refl
    others hw h12 h13 (inr k) = go fate-of
      where
        go : Fares a a' (scene_after flex x cs c) s → AsItWas y W s
        go (stays e) = unchanged a' k (low-after s low) e
        go (works e u w) = absurd-bool e hw
        go (goes e u) = absurd-bool e h12
        go (turns e u w) = absurd-bool e h13

    deleted : hits 12 (file a s).name (scene_after flex x cs c) ≡ true → Left → AsItWas y W s ⊎ (live W (place_in y s) ≡ false)
    deleted h (inl k) = inl (unchanged a k low refl)
    deleted h (inr k) = go fate-of
      where
        l : s < length a'.slots
        l = low-after s low

        go : Fares a a' (scene_after flex x cs c) s → AsItWas y W s ⊎ (live W (place_in y s) ≡ false)
        go (stays e) = inl (unchanged a' k l e)
        go (works e u w) = absurd-bool h u
        go (goes e u) = inr (as-gone y a z r W tab k.ledger k.agrees s low (k.low s l) (k.same s l ∙ u))
        go (turns e u w) = absurd (not-both (file a s).name (scene_after flex x cs c) h e)

    renamed : hits 13 (file a s).name (scene_after flex x cs c) ≡ true → Left → AsItWas y W s ⊎ Renamed y W s (new_name a c)
    renamed h (inl k) = inl (unchanged a k low refl)
    renamed h (inr k) = go fate-of
      where
        l : s < length a'.slots
        l = low-after s low

        go : Fares a a' (scene_after flex x cs c) s → AsItWas y W s ⊎ Renamed y W s (new_name a c)
        go (stays e) = inl (unchanged a' k l e)
        go (works e u w) = absurd-bool h w
        go (goes e u) = absurd (not-both (file a s).name (scene_after flex x cs c) e h)
        go (turns e u w) = inr (as-renamed y a z r W tab k.ledger k.agrees s low (k.low s l) (new_name a c) (k.same s l ∙ u) alive w)

  module _ (n s : ℕ) (ub : List ℕ) (hn : n < 8) (w : block a n ≡ writing s ub) where
    own-file : (s < length a.slots) × (live (file a s).name 0 ≡ true)
    own-file = own-live M₀ S₀ y.img y.tab a f.agrees n hn s ub w

    -- by the file that found-again there
    written_as : (h : Ledger) (k : FoundAgain y h W tab) → s < length h.slots → Grows (file a s) (file h s) ub → Begins (complete (file a s) ub) (bytes_of y W s)
    written_as h k l (none e) = rw e refl
    written_as h k l (onto e u g) =
        let q = k.same s l in
        subst (Begins (complete (file a s) ub))
        (ap (λ (i : File). concat i.body) (sym q)
        ∙ sym (as_bytes y a z r W tab k.ledger k.agrees s own-file.0 (k.low s l) (ap (λ (i : File). i.at) q ∙ e)
        (ap (λ (i : File). live i.name 0) q ∙ ap (λ (i : List ℕ). live i 0) u ∙ own-file.1))) g

    written : Left → Begins (complete (file a s) ub) (bytes_of y W s)
    written (inl k) = written_as a k own-file.0 (grows_same (file a s) ub)
    written (inr k) = written_as a' k (low-after s own-file.0) (grows M₀ S₀ z₀ y a f n s ub hn w c)

pub after-cut : (x : Machine) → Start x → (cs : List Call) (c : Call) → Plain (past flex x (cs ++ c ∷ [])) → (m tab : List ℕ)
    → Recovered flex (run flex x cs) (told flex x cs) 1 m tab ⊎ Recovered flex (run flex x (cs ++ c ∷ [])) (told flex x (cs ++ c ∷ [])) 0 m tab
    → (sectors_in (run flex x cs) (mended_of flex m tab) ≡ (told flex x cs).dir) ⊎ (sectors_in (run flex x cs) (mended_of flex m tab) ≡ (told flex x (cs ++ c ∷ [])).dir)
    → AfterCut flex x cs c m tab
after-cut x st cs c p m tab e g =
    let k = left x st cs c p m tab e in
    record {
      either = e;
      grows = g;
      others = λ s v hw ms. others x st cs c p m tab s v hw ms.1.0 ms.0 k;
      deleted = λ s v h. deleted x st cs c p m tab s v h k;
      renamed = λ s v h. renamed x st cs c p m tab s v h k;
      written = λ n s ub hn w. written x st cs c p m tab n s ub hn w k;
    }
