-- The directory has grown, and the power fails before the new file's slot is stored: the image is sound, with one more sector of slots that were never
-- used, so repair leaves every file.
use Rattle.std.specs.Prelude.{◌≡◌, ◌≢◌, ◌⊎◌, false, ℕ, ◌+◌, ◌*◌, ◌/◌, ◌≤◌, ◌<◌, length, get_or, replicate}
use Rattle.std.proofs.Math.Path.{refl, ap, subst}
use Rattle.std.proofs.Common.{sym, ap₂, ◌∙◌, inl, inr, arith, length-append}
use mathlib.Core.List.{List, [], ◌∷◌, ◌++◌, append-nil}
use Rattle.std.proofs.lemmas.List.{get_or-replicate}
use Rattle.std.proofs.Math.ListN.{get_or-append}
use Rattle.rules.specs.Bytes.{byte_at, two, six, zeros}
use Rattle.rules.specs.Stores.{Store, store, stored}
use Rattle.rules.specs.Image.{adr, last_track, per_track}
use Rattle.rules.specs.Directory.{first_slot_of, live, last_of, directory, slots_of, chain_record}
use Rattle.laws.specs.Bytes.{length-zeros, zeros-at, length_two}
use Rattle.laws.specs.Small.{Small, small-two, small-six, small-zeros}
use Rattle.laws.specs.Stores.{stored-true, stored-off, stored_at, small-stored}
use Rattle.laws.specs.Addresses.{Shape}
use Rattle.chains.specs.Addresses.{absurd-bool}
use Rattle.chains.specs.Tally.{tally, tally-append}
use Rattle.chains.specs.Chain.{seg_same, tally-last, empty}
use Rattle.chains.specs.Directory.{directory-is}
use Rattle.demands.specs.Ledger.{File, no_file, Block, closed, Ledger, unused_slot, unused_slots}
use Rattle.demands.specs.Diskette.{fcbs_from, files_at}
use Rattle.demands.specs.Service.{flex, Machine}
use Rattle.demands.specs.Demands.{last_track_of, per_track_of, in_link, AsItWas, Closed}
use Rattle.demands.specs.Repairs.{LiveFile, mended}
use Rattle.demands.specs.Cuts.{left_with, unused_in, Recovered}
use Rattle.met.specs.Relation.{writes, Holds, Keeps, Agrees}
use Rattle.met.specs.Frees.{k-in, k_off, k-data}
use Rattle.met.specs.Unused.{unused-holds, unused-names, unused-dead}
use Rattle.met.specs.Grown.{longer, grown-agrees}
use Rattle.met.specs.Tidy.{tidy-more}
use Rattle.met.specs.Forms.{formed-start}
use Rattle.met.proofs.Runs.{Fine}
use Rattle.met.proofs.Stays.{not_within}
use Rattle.cutting.proofs.Harms.{rest-matters}
use Rattle.cutting.specs.Kinds.{Matters, linked_stores}
use Rattle.cutting.specs.Harms.{sectors-are, in_rest}
use Rattle.cutting.specs.Shorts.{intact-same}
use Rattle.cutting.proofs.Intact.{no_longer, intact-there, intact-recovers}
use Rattle.cutting.specs.Outcomes.{live-file, as_it_was, found-again}

module _ (M S : ℕ) (z : Shape M S) (y : Machine) (a : Ledger) (f : Fine M S y a) (small : Small y.img) (k : ℕ) (fr : List ℕ) (ef : a.free ≡ k ∷ fr)
    (tab : List ℕ) (tl : length tab ≡ 2560) (shut : Closed tab) where
  abbrev img : List ℕ
  img = y.img

  abbrev ag : Agrees M S y.img y.tab a
  ag = f.agrees

  abbrev linked : List Store
  linked = linked_stores S a k fr

  abbrev m : List ℕ
  m = stored y.img linked

  -- its first new slot has 24 zeros: to store them changes nothing
  others : last_of a.dir 4 ≢ k
  others e =
      omega (arith, k_off M S z img y.tab a ag k fr ef, tally-last a.dir 4 ag.listing.some, ap (λ (j : ℕ). tally j a.dir) e)

  first-zero : (i : ℕ) → i < 24 → byte_at m (256 * k + 16 + i) ≡ 0
  unfolding chain_record six
  first-zero i b =
      stored_at linked img 1 (16 + i) (256 * k + 16 + i) (omega arith) (omega (arith, length-zeros 256)) (omega arith) (omega (arith, k-in M S z img y.tab a ag k fr ef))
      ((λ u v. others (omega (arith, length_two (adr S k)))), tt) ∙ zeros-at 256 (16 + i)

  zeros-there : stored m (store k 16 (zeros 24) ∷ []) ≡ m
  zeros-there = stored-true (store k 16 (zeros 24) ∷ []) m ((λ i b. first-zero i (omega (arith, length-zeros 24)) ∙ sym (zeros-at 24 i)), tt)

  -- ---- the ledger of it, all blocks closed

  abbrev new : File
  new = unused_slot (first_slot_of k)

  made : (w : List ℕ) → ((i x : ℕ) → i < 24 → first_slot_of k + i ≡ x → get_or w x 0 ≡ get_or (zeros 24) i 0) → Holds S w (first_slot_of k) new
  made w h = unused-holds S w (first_slot_of k) (λ i x b e. h i x b e ∙ zeros-at 24 i)

  abbrev a' : Ledger
  a' = longer M S z img y.tab a ag k fr ef (zeros 24) (length-zeros 24) new refl made (replicate 8 closed) (fcbs_from tab 0 8)

  closed_at : (n : ℕ) → n < 8 → get_or (replicate 8 closed) n closed ≡ closed
  closed_at n b = get_or-replicate {A = Block} 8 n closed closed b

  longer-agrees : Agrees M S m tab a'
  unfolding chain_record
  longer-agrees =
      subst (λ (w : List ℕ). Agrees M S w tab a') zeros-there
      (grown-agrees M S z img y.tab a ag k fr ef (zeros 24) (length-zeros 24) new refl made tab (replicate 8 closed) (fcbs_from tab 0 8) tl refl
      (λ n b. subst (λ (v : Block). Keeps S (slots_of a'.dir) tab n a'.slots v) (sym (closed_at n b)) (shut n b))
      (λ n n' ne b b' w. absurd (omega (arith, ap writes (closed_at n b)))))

  fine : Fine M S (left_with m tab) a'
  fine = record {
    agrees = longer-agrees;
    tidy = tidy-more a.slots (unused_slots (first_slot_of k + 24) 9) new f.tidy (length-zeros 11)
        (λ j b u e. absurd-bool (sym (ap (λ (x : List ℕ). live x 0) e) ∙ u) unused-dead) (unused-names (first_slot_of k + 24) 9);
    formed = formed-start tab;
  }

  small' : Small m
  unfolding chain_record
  small' = small-stored linked img small (small-six _ _ _, (small-zeros 256, (small-two (adr S k), tt)))

  -- ---- what repair makes of it

  it : Recovered flex (left_with m tab) a' 0 m tab
  it = intact-recovers M S z (left_with m tab) a' fine small' m (intact-same S a' m m small' refl) 0 tab tl shut

  abbrev X : Machine
  X = mended flex (left_with m tab)

  sectors-now : directory X.img (last_track m) (per_track m) ≡ a.dir ++ k ∷ []
  sectors-now = no_longer (left_with m tab) a' m tab it

  files-now : files_at (per_track m) X.img (slots_of (directory X.img (last_track m) (per_track m))) ≡ a.slots ++ unused_in (k ∷ [])
  unfolding unused_slots
  files-now =
      it.files ∙ ap (λ (g : List ℕ). a'.slots ++ unused_in g) (empty it.gained (omega (arith, it.few))) ∙ append-nil a'.slots
      ∙ ap (λ (l : List File). a.slots ++ l) (sym (append-nil (unused_slots (first_slot_of k) 10)))

  last-same : last_track_of y ≡ last_track m
  last-same = ag.shaped.last ∙ sym longer-agrees.shaped.last

  per-same : per_track_of y ≡ per_track m
  per-same = ag.shaped.per ∙ sym longer-agrees.shaped.per

  pub sectors-own : directory X.img (last_track_of y) (per_track_of y) ≡ a.dir ++ k ∷ []
  sectors-own = ap₂ (λ (u v : ℕ). directory X.img u v) last-same per-same ∙ sectors-now

  -- so has the directory with the new file, whose 24 bytes are no link
  pub sectors-filled : (entry : List ℕ) → length entry ≡ 24 → directory (stored m (store k 16 entry ∷ [])) M S ≡ a.dir ++ k ∷ []
  sectors-filled entry l =
      (directory-is M S z (stored m (store k 16 entry ∷ [])) (a.dir ++ k ∷ []) longer-agrees.listing
      (seg_same S m (stored m (store k 16 entry ∷ [])) (a.dir ++ k ∷ []) 0
      (λ j i t c. stored-off (store k 16 entry ∷ []) m (256 * j + i) ((λ u v. let e : j ≡ k = omega (arith, l) in omega (arith, e)), tt))
      longer-agrees.dir)).1

  -- a live file stands in the ledger of what repair leaves, as in that of the grown image, as in that of y
  shape-own : Shape (last_track_of y) (per_track_of y)
  shape-own = rw (ag.shaped.last, ag.shaped.per) z

  agrees-own : Agrees (last_track_of y) (per_track_of y) y.img y.tab a
  agrees-own = rw (ag.shaped.last, ag.shaped.per) f.agrees

  whole : (s : ℕ) → LiveFile y s → AsItWas y X.img s
  whole s w =
      let o = live-file y a shape-own agrees-own s w in
      let t = found-again y (left_with m tab) a' 0 m tab (sym last-same) (sym per-same) it in
      let b : s < length a'.slots = omega (arith, o.0, length-append a.slots (new ∷ unused_slots (first_slot_of k + 24) 9)) in
      as_it_was y a shape-own agrees-own X.img tab t.ledger t.agrees s o.0 (t.low s b)
      (t.same s b ∙ get_or-append a.slots (new ∷ unused_slots (first_slot_of k + 24) 9) no_file s o.0) o.1

  -- track 0 and the directory, but for the record and the link to the new sector
  module _ (p : ℕ) (at : (p < 256 * S) ⊎ (1 ≤ tally (p / 256) a.dir)) (out : (541 ≤ p → p < 547 → ⊥))
      (off : 256 * last_of a.dir 4 ≤ p → p < 256 * last_of a.dir 4 + 2 → ⊥) where
    not_new : p / 256 ≢ k
    not_new e = go at
      where
        go : (p < 256 * S) ⊎ (1 ≤ tally (p / 256) a.dir) → ⊥
        go (inl u) = omega (arith, (k-data M S z img y.tab a ag k fr ef).0)
        go (inr u) = omega (arith, k_off M S z img y.tab a ag k fr ef, ap (λ (j : ℕ). tally j a.dir) e)

    linked-off : byte_at m p ≡ byte_at img p
    unfolding chain_record six two
    linked-off =
        stored-off linked img p
        ((λ u v. out (omega arith) (omega arith)), ((λ u v. not_new (omega (arith, length-zeros 256))), ((λ u v. off (omega arith) (omega arith)), tt)))

    grown-matters : Matters S a' p
    grown-matters = rest-matters S a' p (go at) out
      where
        go : (p < 256 * S) ⊎ (1 ≤ tally (p / 256) a.dir) → (p < 256 * S) ⊎ (1 ≤ tally (p / 256) (a.dir ++ k ∷ []))
        go (inl u) = inl u
        go (inr u) = inr (omega (arith, u, tally-append (p / 256) a.dir (k ∷ [])))

    rest-kept : byte_at X.img p ≡ byte_at img p
    rest-kept = intact-there M S z (left_with m tab) a' fine small' m (intact-same S a' m m small' refl) tab tl shut p grown-matters ∙ linked-off

  pub recovered : Recovered flex y a 1 m tab
  recovered = record {
    answer = it.answer;
    begins = it.begins;
    shape = (it.shape.0 ∙ sym last-same, it.shape.1 ∙ sym per-same);
    resumes = it.resumes;
    gained = k ∷ [];
    few = omega arith;
    sectors = sectors-own;
    files = ap₂ (λ (u v : ℕ). files_at v X.img (slots_of (directory X.img u v))) last-same per-same ∙ files-now;
    whole = whole;
    rest = λ p at out off. rest-kept p (in_rest M S z y a f p at) (λ u v. not_within 541 546 p out u (omega arith))
        (λ u v. not_within (256 * last_of a.dir 4) (256 * last_of a.dir 4 + 1) p
        (subst (λ (ds : List ℕ). in_link (last_of ds 4) p ≡ false) (sectors-are M S z y a f) off) u (omega arith));
    recopies = it.recopies;
  }
