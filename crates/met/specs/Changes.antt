-- What an accepted call changes in the ledger; and what it leaves: other blocks, their files, files that no delete and no rename names.
use Rattle.std.specs.Prelude.{◌≡◌, ◌≢◌, ◌⊎◌, Bool, List, [], ◌∷◌, ◌++◌, ℕ, zero, suc, ◌+◌, ◌≤◌, ◌<◌, length, get_or, set, drop, eqb, ltb}
use Rattle.std.proofs.Math.Path.{refl, subst}
use Rattle.std.proofs.Common.{sym, ap, ◌∙◌, inl, inr, append-nil, append_assoc, arith, length-append, length-set, get_or-set_same, get_or-set_other, eqb-true}
use Rattle.std.proofs.Math.Bool.{true, false}
use Rattle.std.proofs.Math.Decide.{ℕ_discrete, dec_lt}
use Rattle.std.proofs.Math.ListN.{get_or-append}
use Rattle.std.proofs.lemmas.Bool.{eqb-false}
use Rattle.rules.specs.Bytes.{pick, within, zeros}
use Rattle.rules.specs.Image.{is_sector}
use Rattle.rules.specs.Names.{legal}
use Rattle.rules.specs.Directory.{first_slot_of, live, never_used, named, vacant, slots_of}
use Rattle.rules.specs.Stores.{put}
use Rattle.rules.specs.Files.{opened, write_protected, delete_protected, read_protected}
use Rattle.rules.specs.Block.{idle}
use Rattle.rules.specs.Call.{served, fits}
use Rattle.laws.specs.Tests.{pick-cases, pick_all}
use Rattle.chains.specs.Tally.{tally, tally-append}
use Rattle.chains.specs.Chain.{in_one}
use Rattle.chains.specs.Addresses.{absurd-bool}
use Rattle.demands.specs.Ledger.{File, no_file, Block, closed, listing, reading, writing, Ledger, Request, Fate, denied, granted, Sought, nowhere, slot, on_sought, file_named, vacant_slot, busy, activity, block, file, attributes, set_block, set_file, set_free, with_mark, with_name, new_file, unused_slots, add_sector, taken, transferred, grown, opened_to_read, opened_to_write, shut_block, rewound, shown_next, slot_put, deleted, fetched, renamed, performed, called, joined, entry_of}
use Rattle.met.specs.Tames.{last_code}
use Rattle.met.specs.Relation.{opens, writes, Keeps, Agrees}
use Rattle.met.specs.Searches.{slot_same, seek_found, vacant-hit, marked-dead}
use Rattle.met.specs.Unused.{unused-names}
use Rattle.met.specs.Tidy.{name_of, Tidy, tidy-set, tidy-more, found_none}

-- ---- the kinds of change

-- block n as b writes nothing that it did not write before
abbrev pub Steady : Ledger → ℕ → Block → Type 0
Steady a n b = (t : ℕ) → writes b ≡ suc t → writes (block a n) ≡ suc t

-- the free sectors: as they were, the first taken off, or more behind them
pub data Freed (a : Ledger) : List ℕ → List (List ℕ) → Type 0 where
  same : Freed a a.free a.spare
  fewer : (k : ℕ) (fr : List ℕ) → a.free ≡ k ∷ fr → Freed a fr (drop 1 a.spare)
  more : (l : List ℕ) (vs : List (List ℕ)) → Freed a (a.free ++ l) (a.spare ++ vs)

pub data Change (a : Ledger) (n : ℕ) (q : Request) : Ledger → Type 0 where
  -- nothing, or block n alone
  still : q.code ≢ 13 → Change a n q a
  turned : q.code ≢ 13 → (b : Block) → Steady a n b → Change a n q (set_block a n b)
  -- the file that block n writes: its bytes, or it is dropped
  worked : q.code ≢ 13 → (s : ℕ) (ub fr : List ℕ) (vs : List (List ℕ)) (f : File) (b : Block) → block a n ≡ writing s ub → f.name ≡ (file a s).name → Steady a n b
      → Freed a fr vs → Change a n q (set_free a fr vs s f n b)
  dropped : q.code ≢ 13 → (s : ℕ) (ub : List ℕ) → block a n ≡ writing s ub → Change a n q (set_file a s (with_mark (file a s)) n closed)
  -- a new file; one deleted by its name; one renamed by its name
  made : q.code ≢ 13 → (s : ℕ) → legal q.name 0 ≡ true → file_named q.name a.slots ≡ nowhere → vacant_slot a.slots ≡ slot s
      → Change a n q (set_file a s (new_file (file a s).at q.name q.date) n (writing s []))
  -- the same in a sector that the directory gets
  grew : q.code ≢ 13 → (k : ℕ) (fr : List ℕ) → a.free ≡ k ∷ fr → file_named q.name a.slots ≡ nowhere
      → Change a n q (add_sector a k fr (new_file (first_slot_of k) q.name q.date) n (writing (length a.slots) []))
  gone : (s : ℕ) → q.code ≡ 12 → file_named q.name a.slots ≡ slot s → busy true s a.blocks 8 ≡ false
      → Change a n q (set_free a (a.free ++ (file a s).secs) (a.spare ++ joined (file a s).recs (file a s).body) s (with_mark (file a s)) n (block a n))
  retitled : (s : ℕ) → q.code ≡ 13 → file_named q.name a.slots ≡ slot s → busy true s a.blocks 8 ≡ false → legal q.rename 0 ≡ true
      → file_named q.rename a.slots ≡ nowhere
      → Change a n q (set_file a s (with_name (file a s) q.rename) n (block a n))

abbrev pub Changes : Ledger → ℕ → Request → Fate → Type 0
Changes a n q (denied e) = Unit {0}
Changes a n q (granted b a' ps) = Change a n q a'

module _ (M S : ℕ) (a : Ledger) (n : ℕ) (q : Request) where
  abbrev C : Fate → Type 0
  C = Changes a n q

  change-taken : q.code ≢ 13 → (s : ℕ) (ub x : List ℕ) → block a n ≡ writing s ub → a.free ≡ x → C (taken M S a n q s x)
  change-taken ne s ub [] e ef = tt
  change-taken ne s ub (k ∷ fr) e ef = worked ne s ub fr (drop 1 a.spare) _ _ e refl (λ t h. ap writes e ∙ h) (fewer k fr ef)

  change-transfer : q.code ≢ 13 → (o : Block) → block a n ≡ o → C (transferred M S a n q o)
  change-transfer ne closed e = tt
  change-transfer ne (listing p) e = tt
  change-transfer ne (reading s j i) e =
      pick_all C (eqb i 0) _ _ (pick_all C (ltb j (length (file a s).secs)) _ _ (turned ne _ (λ t h. absurd (omega arith))) tt) (turned ne _ (λ t h. absurd (omega arith)))
  change-transfer ne (writing s ub) e =
      pick_all C (eqb (length ub) 0) _ _ (change-taken ne s ub a.free e refl) (pick_all C (eqb (length ub) 251) _ _ (worked ne s ub a.free a.spare _ _ e refl (λ t h. ap writes e ∙ h) same) (turned ne _ (λ t h. ap writes e ∙ h)))

  change-open-read : q.code ≢ 13 → C (opened_to_read M S a n q)
  unfolding opened_to_read
  change-open-read ne = pick_all C (legal q.name 0) _ _ (go (file_named q.name a.slots)) tt
    where
      go : (x : Sought) → C (on_sought x (denied 4) (λ s. pick (read_protected (attributes a s)) (denied 17) (pick (busy false s a.blocks 8) (denied 2) (granted 0 (set_block a n (reading s 0 0)) (opened S 1 (file a s).at (entry_of (file a s)))))))
      go nowhere = tt
      go (slot s) = pick_all C (read_protected (attributes a s)) _ _ tt (pick_all C (busy false s a.blocks 8) _ _ tt (turned ne _ (λ t h. absurd (omega arith))))

  change-grown : q.code ≢ 13 → file_named q.name a.slots ≡ nowhere → (x : List ℕ) → a.free ≡ x → C (grown M S a n q x)
  change-grown ne e [] ef = tt
  change-grown ne e (k ∷ fr) ef = grew ne k fr ef e

  change-open-write : q.code ≢ 13 → C (opened_to_write M S a n q)
  unfolding opened_to_write
  change-open-write ne = pick-cases C (legal q.name 0) _ _ (λ h. go h (file_named q.name a.slots) refl (vacant_slot a.slots) refl) (λ h. tt)
    where
      go : legal q.name 0 ≡ true → (x : Sought) → file_named q.name a.slots ≡ x → (y : Sought) → vacant_slot a.slots ≡ y
          → C (on_sought x (on_sought y (grown M S a n q a.free) (λ s. granted 0 (set_file a s (new_file (file a s).at q.name q.date) n (writing s [])) (opened S 2 (file a s).at (entry_of (new_file (file a s).at q.name q.date))))) (λ s. denied 3))
      go h (slot s) e y f = tt
      go h nowhere e nowhere f = change-grown ne e a.free refl
      go h nowhere e (slot s) f = made ne s h e f

  change-shut : q.code ≢ 13 → (o : Block) → block a n ≡ o → C (shut_block M S a n q o)
  change-shut ne closed e = tt
  change-shut ne (listing p) e = turned ne closed (λ t h. absurd (omega arith))
  change-shut ne (reading s j i) e = turned ne closed (λ t h. absurd (omega arith))
  change-shut ne (writing s ub) e =
      pick_all C (eqb (length (file a s).secs) 0) _ _ (dropped ne s ub e) (pick_all C (eqb (length ub) 0) _ _ (turned ne closed (λ t h. absurd (omega arith))) (worked ne s ub a.free a.spare _ closed e refl (λ t h. absurd (omega arith)) same))

  change-rewind : q.code ≢ 13 → (o : Block) → C (rewound M S a n q o)
  change-rewind ne closed = tt
  change-rewind ne (listing p) = tt
  change-rewind ne (reading s j i) = turned ne (reading s 0 0) (λ t h. absurd (omega arith))
  change-rewind ne (writing s ub) = tt

  change-list : q.code ≢ 13 → (o : Block) → C (shown_next M S a n q o)
  change-list ne closed = tt
  change-list ne (listing p) = pick_all C (ltb p (length a.slots)) _ _ (turned ne _ (λ t h. absurd (omega arith))) tt
  change-list ne (reading s j i) = tt
  change-list ne (writing s ub) = tt

  change-put : q.code ≢ 13 → (o : Block) → C (slot_put M S a n q o)
  change-put ne closed = tt
  change-put ne (listing zero) = tt
  change-put ne (listing (suc p)) = still ne
  change-put ne (reading s j i) = tt
  change-put ne (writing s ub) = tt

  change-delete : q.code ≡ 12 → C (deleted M S a n q)
  unfolding deleted
  change-delete c = pick_all C (legal q.name 0) _ _ (go (file_named q.name a.slots) refl) tt
    where
      go : (x : Sought) → file_named q.name a.slots ≡ x
          → C (on_sought x (denied 4) (λ s. pick (busy true s a.blocks 8) (denied 2) (pick (delete_protected (attributes a s)) (denied 12) (pick (write_protected (attributes a s)) (denied 11)
          (granted 0 (set_free a (a.free ++ (file a s).secs) (a.spare ++ joined (file a s).recs (file a s).body) s (with_mark (file a s)) n (block a n)) (put 4 (entry_of (with_mark (file a s))) ∷ []))))))
      go nowhere e = tt
      go (slot s) e =
          pick-cases C (busy true s a.blocks 8) _ _ (λ h. tt) (λ h. pick_all C (delete_protected (attributes a s)) _ _ tt (pick_all C (write_protected (attributes a s)) _ _ tt (gone s c e h)))

  change-rename : q.code ≡ 13 → C (renamed M S a n q)
  unfolding renamed
  change-rename c =
      pick_all C (legal q.name 0) _ _
      (pick-cases C (legal q.rename 0) _ _ (λ h. go h (file_named q.name a.slots) refl (file_named q.rename a.slots) refl) (λ h. tt)) tt
    where
      go : legal q.rename 0 ≡ true → (x : Sought) → file_named q.name a.slots ≡ x → (y : Sought) → file_named q.rename a.slots ≡ y
          → C (on_sought x (denied 4) (λ s. pick (busy true s a.blocks 8) (denied 2) (pick (write_protected (attributes a s)) (denied 11)
          (on_sought y (granted 0 (set_file a s (with_name (file a s) q.rename) n (block a n)) (put 4 q.rename ∷ [])) (λ t. denied 3)))))
      go h nowhere e y f = tt
      go h (slot s) e (slot t) f = pick_all C (busy true s a.blocks 8) _ _ tt (pick_all C (write_protected (attributes a s)) _ _ tt tt)
      go h (slot s) e nowhere f =
          pick-cases C (busy true s a.blocks 8) _ _ (λ k. tt) (λ k. pick_all C (write_protected (attributes a s)) _ _ tt (retitled s c e k h f))

  not13 : (k : ℕ) → eqb q.code k ≡ true → k ≢ 13 → q.code ≢ 13
  not13 k h ne e = ne (sym (eqb-true q.code k h) ∙ e)

  pub changes : C (called M S a n q)
  unfolding called performed fetched
  changes =
      let c = q.code in
      pick-cases C (served c) _ _
      (λ sv. pick_all C (eqb q.drive 0) _ _
      (pick_all C (fits c (activity (block a n))) _ _
      (pick-cases C (eqb c 0) _ _ (λ h. change-transfer (not13 0 h (omega arith)) (block a n) refl)
      (λ n0. pick-cases C (eqb c 1) _ _ (λ h. change-open-read (not13 1 h (omega arith)))
      (λ n1. pick-cases C (eqb c 2) _ _ (λ h. change-open-write (not13 2 h (omega arith)))
      (λ n2. pick-cases C (eqb c 4) _ _ (λ h. change-shut (not13 4 h (omega arith)) (block a n) refl)
      (λ n4. pick-cases C (eqb c 5) _ _ (λ h. change-rewind (not13 5 h (omega arith)) (block a n))
      (λ n5. pick-cases C (eqb c 6) _ _ (λ h. turned (not13 6 h (omega arith)) (listing 0) (λ t h. absurd (omega arith)))
      (λ n6. pick-cases C (eqb c 7) _ _ (λ h. change-list (not13 7 h (omega arith)) (block a n))
      (λ n7. pick-cases C (eqb c 8) _ _ (λ h. change-put (not13 8 h (omega arith)) (block a n))
      (λ n8. pick-cases C (eqb c 9) _ _ (λ h. pick_all C (is_sector M S q.position) _ _ (still (not13 9 h (omega arith))) tt)
      (λ n9. pick-cases C (eqb c 10) _ _ (λ h. pick_all C (is_sector M S q.position) _ _ (still (not13 10 h (omega arith))) tt)
      (λ n10. pick-cases C (eqb c 12) _ _ (λ h. change-delete (eqb-true c 12 h))
      (λ n12. change-rename (last_code c sv (eqb-false c 0 n0) (eqb-false c 1 n1) (eqb-false c 2 n2) (eqb-false c 4 n4) (eqb-false c 5 n5) (eqb-false c 6 n6) (eqb-false c 7 n7) (eqb-false c 8 n8) (eqb-false c 9 n9) (eqb-false c 10 n10) (eqb-false c 12 n12))))))))))))))
      tt)
      tt)
      (λ sv. tt)

-- ---- what is left as it was

-- the bytes of the blocks are put in elsewhere
pub forms-kept : (a a' : Ledger) (n : ℕ) (q : Request) → Change a n q a' → a'.fcbs ≡ a.fcbs
forms-kept a a' n q (still ne) = refl
forms-kept a a' n q (turned ne b st) = refl
forms-kept a a' n q (worked ne s ub fr vs f b x y st fd) = refl
forms-kept a a' n q (dropped ne s ub x) = refl
forms-kept a a' n q (made ne s x y w) = refl
forms-kept a a' n q (grew ne k fr ef x) = refl
forms-kept a a' n q (gone s x y by) = refl
forms-kept a a' n q (retitled s x y by w v) = refl

-- the start's image, and the directory's sectors with what stands before their slots: kept, data sectors behind them
pub record Onward (S : ℕ) (a a' : Ledger) : Type 0 where
  pub base : a'.base ≡ a.base
  pub ks : List ℕ
  pub vs : List (List ℕ)
  pub dir : a'.dir ≡ a.dir ++ ks
  pub heads : a'.heads ≡ a.heads ++ vs
  pub behind : (x : ℕ) → 1 ≤ tally x ks → S ≤ x

pub onward-same : (S : ℕ) (a a' : Ledger) → a'.base ≡ a.base → a'.dir ≡ a.dir → a'.heads ≡ a.heads → Onward S a a'
onward-same S a a' b d h =
    record { base = b; ks = []; vs = []; dir = d ∙ sym (append-nil a.dir); heads = h ∙ sym (append-nil a.heads); behind = λ x t. absurd (omega arith) }

pub onward_then : (S : ℕ) (a b c : Ledger) → Onward S a b → Onward S b c → Onward S a c
onward_then S a b c u v =
    record {
      base = v.base ∙ u.base;
      ks = u.ks ++ v.ks;
      vs = u.vs ++ v.vs;
      dir = v.dir ∙ ap (λ (l : List ℕ). l ++ v.ks) u.dir ∙ append_assoc a.dir u.ks v.ks;
      heads = v.heads ∙ ap (λ (l : List (List ℕ)). l ++ v.vs) u.heads ∙ append_assoc a.heads u.vs v.vs;
      behind = λ x t. go x (tally x u.ks) refl (omega (arith, t, tally-append x u.ks v.ks));
    }
  where
    go : (x n : ℕ) → tally x u.ks ≡ n → 1 ≤ tally x u.ks + tally x v.ks → S ≤ x
    go x zero e t = v.behind x (omega (arith, t, e))
    go x (suc n) e t = u.behind x (omega (arith, e))

pub onward : (S : ℕ) (a a' : Ledger) (n : ℕ) (q : Request) → ((x : ℕ) → 1 ≤ tally x a.free → S ≤ x) → Change a n q a' → Onward S a a'
onward S a a' n q low (still ne) = onward-same S a a' refl refl refl
onward S a a' n q low (turned ne b st) = onward-same S a a' refl refl refl
onward S a a' n q low (worked ne s ub fr vs f b x y st fd) = onward-same S a a' refl refl refl
onward S a a' n q low (dropped ne s ub x) = onward-same S a a' refl refl refl
onward S a a' n q low (made ne s x y w) = onward-same S a a' refl refl refl
onward S a a' n q low (grew ne k fr ef x) =
    record {
      base = refl;
      ks = k ∷ [];
      vs = zeros 14 ∷ [];
      dir = refl;
      heads = refl;
      behind = λ y t. low y (let e : y ≡ k = in_one y k t in omega (arith, ap (tally y) ef, t));
    }
onward S a a' n q low (gone s x y by) = onward-same S a a' refl refl refl
onward S a a' n q low (retitled s x y by w v) = onward-same S a a' refl refl refl

pub freed : (a a' : Ledger) (n : ℕ) (q : Request) → Change a n q a' → Freed a a'.free a'.spare
freed a a' n q (still ne) = same
freed a a' n q (turned ne b st) = same
freed a a' n q (worked ne s ub fr vs f b x y st fd) = fd
freed a a' n q (dropped ne s ub x) = same
freed a a' n q (made ne s x y w) = same
freed a a' n q (grew ne k fr ef x) = fewer k fr ef
freed a a' n q (gone s x y by) = more (file a s).secs (joined (file a s).recs (file a s).body)
freed a a' n q (retitled s x y by w v) = same

-- block m, where n is another
pub other_block : (a a' : Ledger) (n : ℕ) (q : Request) → Change a n q a' → (m : ℕ) → m ≢ n → block a' m ≡ block a m
other_block a a' n q (still ne) m e = refl
other_block a a' n q (turned ne b st) m e = get_or-set_other a.blocks n m b closed e
other_block a a' n q (worked ne s ub fr vs f b x y st fd) m e = get_or-set_other a.blocks n m b closed e
other_block a a' n q (dropped ne s ub x) m e = get_or-set_other a.blocks n m closed closed e
other_block a a' n q (made ne s x y w) m e = get_or-set_other a.blocks n m (writing s []) closed e
other_block a a' n q (grew ne k fr ef x) m e = get_or-set_other a.blocks n m (writing (length a.slots) []) closed e
other_block a a' n q (gone s x y by) m e = get_or-set_other a.blocks n m (block a n) closed e
other_block a a' n q (retitled s x y by w v) m e = get_or-set_other a.blocks n m (block a n) closed e

-- slot s: kept, or the file that n writes, or one that was not live, or the one that is deleted or renamed by its name
pub data Slot (a a' : Ledger) (n : ℕ) (q : Request) (s : ℕ) : Type 0 where
  kept : file a' s ≡ file a s → (q.code ≡ 13 → file_named q.name a.slots ≢ slot s) → Slot a a' n q s
  own : (ub : List ℕ) → block a n ≡ writing s ub → Slot a a' n q s
  fresh : live (name_of a.slots s) 0 ≡ false → Slot a a' n q s
  lost : q.code ≡ 12 → file_named q.name a.slots ≡ slot s → busy true s a.blocks 8 ≡ false
      → (s < length a.slots → file a' s ≡ with_mark (file a s)) → Slot a a' n q s
  moved : q.code ≡ 13 → file_named q.name a.slots ≡ slot s → busy true s a.blocks 8 ≡ false
      → (s < length a.slots → file a' s ≡ with_name (file a s) q.rename) → Slot a a' n q s

-- the slot that an open for write takes was not live; and none is live behind them
vacant-dead : (fs : List File) (s : ℕ) → vacant_slot fs ≡ slot s → live (name_of fs s) 0 ≡ false
vacant-dead fs s e = vacant-hit (name_of fs s) (seek_found (λ x. vacant x 0) fs s e).hit

none-dead : (fs : List File) (s : ℕ) → length fs ≤ s → live (name_of fs s) 0 ≡ false
unfolding live never_used
none-dead [] s h = refl
none-dead (f ∷ fs) zero h = absurd (omega arith)
none-dead (f ∷ fs) (suc s) h = none-dead fs s (omega arith)

pub slot-fate : (a a' : Ledger) (n : ℕ) (q : Request) → Change a n q a' → (s : ℕ) → Slot a a' n q s
slot-fate a a' n q (still ne) s = kept refl (λ c. absurd (ne c))
slot-fate a a' n q (turned ne b st) s = kept refl (λ c. absurd (ne c))
slot-fate a a' n q (worked ne t ub fr vs f b x y st fd) s = go (ℕ_discrete s t)
  where
    go : Dec (s ≡ t) → Slot a (set_free a fr vs t f n b) n q s
    go (yes e) = own ub (x ∙ ap (λ (k : ℕ). writing k ub) (sym e))
    go (no e) = kept (get_or-set_other a.slots t s f no_file e) (λ c. absurd (ne c))
slot-fate a a' n q (dropped ne t ub x) s = go (ℕ_discrete s t)
  where
    go : Dec (s ≡ t) → Slot a (set_file a t (with_mark (file a t)) n closed) n q s
    go (yes e) = own ub (x ∙ ap (λ (k : ℕ). writing k ub) (sym e))
    go (no e) = kept (get_or-set_other a.slots t s (with_mark (file a t)) no_file e) (λ c. absurd (ne c))
slot-fate a a' n q (made ne t x y w) s = go (ℕ_discrete s t)
  where
    go : Dec (s ≡ t) → Slot a (set_file a t (new_file (file a t).at q.name q.date) n (writing t [])) n q s
    go (yes e) = fresh (vacant-dead a.slots s (w ∙ ap slot (sym e)))
    go (no e) = kept (get_or-set_other a.slots t s (new_file (file a t).at q.name q.date) no_file e) (λ c. absurd (ne c))
slot-fate a a' n q (grew ne k fr ef x) s = go (dec_lt s (length a.slots))
  where
    go : Dec (s < length a.slots) → Slot a (add_sector a k fr (new_file (first_slot_of k) q.name q.date) n (writing (length a.slots) [])) n q s
    go (yes h) = kept (get_or-append a.slots _ no_file s h) (λ c. absurd (ne c))
    go (no h) = fresh (none-dead a.slots s (omega arith))
slot-fate a a' n q (gone t x y by) s = go (ℕ_discrete s t)
  where
    go : Dec (s ≡ t) → Slot a (set_free a (a.free ++ (file a t).secs) (a.spare ++ joined (file a t).recs (file a t).body) t (with_mark (file a t)) n (block a n)) n q s
    go (yes e) =
        lost x (y ∙ ap slot (sym e)) (ap (λ (k : ℕ). busy true k a.blocks 8) e ∙ by)
        (λ h. subst (λ (k : ℕ). get_or (set a.slots k (with_mark (file a k))) s no_file ≡ with_mark (file a s)) e (get_or-set_same a.slots s (with_mark (file a s)) no_file h))
    go (no e) = kept (get_or-set_other a.slots t s (with_mark (file a t)) no_file e) (λ c. absurd (omega (arith, c, x)))
slot-fate a a' n q (retitled t x y by w v) s = go (ℕ_discrete s t)
  where
    go : Dec (s ≡ t) → Slot a (set_file a t (with_name (file a t) q.rename) n (block a n)) n q s
    go (yes e) =
        moved x (y ∙ ap slot (sym e)) (ap (λ (k : ℕ). busy true k a.blocks 8) e ∙ by)
        (λ h. subst (λ (k : ℕ). get_or (set a.slots k (with_name (file a k) q.rename)) s no_file ≡ with_name (file a s) q.rename) e
        (get_or-set_same a.slots s (with_name (file a s) q.rename) no_file h))
    go (no e) = kept (get_or-set_other a.slots t s (with_name (file a t) q.rename) no_file e) (λ c v. e (slot_same s t (sym v ∙ y)))

pub length-grows : (a a' : Ledger) (n : ℕ) (q : Request) → Change a n q a' → length a.slots ≤ length a'.slots
length-grows a a' n q (still ne) = omega arith
length-grows a a' n q (turned ne b st) = omega arith
length-grows a a' n q (worked ne s ub fr vs f b x y st fd) = omega (arith, length-set a.slots s f)
length-grows a a' n q (dropped ne s ub x) = omega (arith, length-set a.slots s (with_mark (file a s)))
length-grows a a' n q (made ne s x y w) = omega (arith, length-set a.slots s (new_file (file a s).at q.name q.date))
length-grows a a' n q (grew ne k fr ef x) = omega (arith, length-append a.slots (new_file (first_slot_of k) q.name q.date ∷ unused_slots (first_slot_of k + 24) 9))
length-grows a a' n q (gone s x y by) = omega (arith, length-set a.slots s (with_mark (file a s)))
length-grows a a' n q (retitled s x y by w v) = omega (arith, length-set a.slots s (with_name (file a s) q.rename))

-- a new name is legal
pub rename-legal : (a a' : Ledger) (n : ℕ) (q : Request) → Change a n q a' → q.code ≡ 13 → legal q.rename 0 ≡ true
rename-legal a a' n q (still ne) e = absurd (ne e)
rename-legal a a' n q (turned ne b st) e = absurd (ne e)
rename-legal a a' n q (worked ne s ub fr vs f b x y st fd) e = absurd (ne e)
rename-legal a a' n q (dropped ne s ub x) e = absurd (ne e)
rename-legal a a' n q (made ne s x y w) e = absurd (ne e)
rename-legal a a' n q (grew ne k fr ef x) e = absurd (ne e)
rename-legal a a' n q (gone s x y by) e = absurd (omega (arith, e, x))
rename-legal a a' n q (retitled s x y by w v) e = w

-- who writes a slot afterwards wrote it before, or has just made it
pub writes-before : (a a' : Ledger) (n : ℕ) (q : Request) → n < length a.blocks → Change a n q a' → (m s : ℕ) → writes (block a' m) ≡ suc s
    → live (name_of a.slots s) 0 ≡ true → writes (block a m) ≡ suc s
writes-before a a' n q hn c m s w v = go (ℕ_discrete m n)
  where
    here : (b : Block) → writes (get_or (set a.blocks n b) m closed) ≡ suc s → m ≡ n → writes b ≡ suc s
    here b w d = ap writes (sym (ap (λ (k : ℕ). get_or (set a.blocks n b) k closed) d ∙ get_or-set_same a.blocks n b closed hn)) ∙ w

    now : (a' : Ledger) → Change a n q a' → writes (block a' m) ≡ suc s → m ≡ n → writes (block a m) ≡ suc s
    now a' (still ne) w d = w
    now a' (turned ne b st) w d = ap (λ (k : ℕ). writes (block a k)) d ∙ st s (here b w d)
    now a' (worked ne t ub fr vs f b x y st fd) w d = ap (λ (k : ℕ). writes (block a k)) d ∙ st s (here b w d)
    now a' (dropped ne t ub x) w d = absurd (omega (arith, here closed w d))
    now a' (made ne t x y z) w d =
        let e : t ≡ s = omega (arith, here (writing t []) w d) in absurd-bool v (vacant-dead a.slots s (z ∙ ap slot e))
    now a' (grew ne k fr ef x) w d = absurd-bool v (none-dead a.slots s (omega (arith, here (writing (length a.slots) []) w d)))
    now a' (gone t x y by) w d = ap (λ (k : ℕ). writes (block a k)) d ∙ here (block a n) w d
    now a' (retitled t x y by z u) w d = ap (λ (k : ℕ). writes (block a k)) d ∙ here (block a n) w d

    go : Dec (m ≡ n) → writes (block a m) ≡ suc s
    go (yes d) = now a' c w d
    go (no d) = ap writes (sym (other_block a a' n q c m d)) ∙ w

-- ---- 43 stays away

module _ (a : Ledger) (t : Tidy a.slots) where
  -- of the same name
  same_name : (s : ℕ) (f : File) → s < length a.slots → live f.name 0 ≡ true → f.name ≡ name_of a.slots s → Tidy (set a.slots s f)
  same_name s f hs l e =
      let e1 : name_of a.slots s ≡ f.name = sym e in
      tidy-set a.slots t s f hs (ap length e ∙ t.long s hs)
      (λ v j ne b w p. t.apart j s ne b hs w (ap (λ (x : List ℕ). live x 0) (sym e) ∙ v) (p ∙ e))

  marked : (s : ℕ) → s < length a.slots → Tidy (set a.slots s (with_mark (file a s)))
  marked s hs =
      let l = t.long s hs in
      let dead = marked-dead (name_of a.slots s) (omega (arith, l)) in
      tidy-set a.slots t s (with_mark (file a s)) hs (length-set (name_of a.slots s) 0 255 ∙ l) (λ v. absurd-bool v dead)

  pub tidy-change : (a' : Ledger) (n : ℕ) (q : Request) → length q.name ≡ 11 → length q.rename ≡ 11
      → ((s : ℕ) (ub : List ℕ) → block a n ≡ writing s ub → (s < length a.slots) × (live (name_of a.slots s) 0 ≡ true))
      → Change a n q a' → Tidy a'.slots
  tidy-change a' n q ln lr ow h = go n a' ow h
    where
      -- n stands before a', so that the cases can say what a' is by n
      go : (n : ℕ) (a' : Ledger) → ((s : ℕ) (ub : List ℕ) → block a n ≡ writing s ub → (s < length a.slots) × (live (name_of a.slots s) 0 ≡ true))
          → Change a n q a' → Tidy a'.slots
      go n a' ow (still ne) = t
      go n a' ow (turned ne b st) = t
      go n a' ow (worked ne s ub fr vs f b x y st fd) = let o = ow s ub x in same_name s f o.0 (ap (λ (x : List ℕ). live x 0) y ∙ o.1) y
      go n a' ow (dropped ne s ub x) = marked s (ow s ub x).0
      go n a' ow (made ne s x y w) =
          tidy-set a.slots t s (new_file (file a s).at q.name q.date) (seek_found (λ x. vacant x 0) a.slots s w).low ln
          (λ v j ne b u. found_none q.name a.slots t y j b u)
      go n a' ow (grew ne k fr ef x) =
          tidy-more a.slots (unused_slots (first_slot_of k + 24) 9) (new_file (first_slot_of k) q.name q.date) t ln
          (λ j b u. found_none q.name a.slots t x j b u)
          (unused-names (first_slot_of k + 24) 9)
      go n a' ow (gone s x y by) = marked s (seek_found (λ x. named x q.name 0) a.slots s y).low
      go n a' ow (retitled s x y by w v) =
          tidy-set a.slots t s (with_name (file a s) q.rename) (seek_found (λ x. named x q.name 0) a.slots s y).low lr
          (λ u j ne b k. found_none q.rename a.slots t v j b k)

-- ---- what a block that writes can call: 0 and 4

writer-fits : (c : ℕ) → fits c 2 ≡ true → (c ≡ 0) ⊎ (c ≡ 4)
unfolding fits within idle
writer-fits c = go (eqb c 0) refl (eqb c 4) refl (eqb c 5) (within 7 8 c)
  where
    go : (u : Bool) → eqb c 0 ≡ u → (v : Bool) → eqb c 4 ≡ v → (w x : Bool) → pick u true (pick v true (pick w false (pick x false false))) ≡ true → (c ≡ 0) ⊎ (c ≡ 4)
    go true e v e' w x h = inl (eqb-true c 0 e)
    go false e true e' w x h = inr (eqb-true c 4 e')
    go false e false e' true x h = absurd-bool h refl
    go false e false e' false true h = absurd-bool h refl
    go false e false e' false false h = absurd-bool h refl

module _ (M S : ℕ) (a : Ledger) (n : ℕ) (q : Request) (s : ℕ) (ub : List ℕ) (w : block a n ≡ writing s ub) where
  performed-zero : q.code ≡ 0 → performed M S a n q ≡ transferred M S a n q (writing s ub)
  unfolding performed
  performed-zero e = rw (e, w) refl

  performed-four : q.code ≡ 4 → performed M S a n q ≡ shut_block M S a n q (writing s ub)
  unfolding performed
  performed-four e = rw (e, w) refl

  pub of-writer : (P : Fate → Type 0) → ((e : ℕ) → P (denied e)) → (q.code ≡ 0 → P (transferred M S a n q (writing s ub)))
      → (q.code ≡ 4 → P (shut_block M S a n q (writing s ub))) → P (called M S a n q)
  unfolding called
  of-writer P refused sends shuts =
      pick_all P (served q.code) _ _
      (pick_all P (eqb q.drive 0) _ _
      (pick-cases P (fits q.code (activity (block a n))) _ _
      (λ h. go (writer-fits q.code (ap (λ (o : Block). fits q.code (activity o)) (sym w) ∙ h)))
      (λ h. refused _))
      (refused 16))
      (refused 1)
    where
      go : (q.code ≡ 0) ⊎ (q.code ≡ 4) → P (performed M S a n q)
      go (inl e) = subst P (sym (performed-zero e)) (sends e)
      go (inr e) = subst P (sym (performed-four e)) (shuts e)

-- ---- of a ledger that image and table agree with

module _ (M S : ℕ) (img tab : List ℕ) (a : Ledger) (r : Agrees M S img tab a) where
  -- an open slot is live
  pub open-live : (m s : ℕ) → m < 8 → opens (block a m) ≡ suc s → (live (name_of a.slots s) 0 ≡ true) × (s < length a.slots)
  open-live m s hm e = go (block a m) (r.keeps m hm) e
    where
      go : (b : Block) → Keeps S (slots_of a.dir) tab m a.slots b → opens b ≡ suc s → (live (name_of a.slots s) 0 ≡ true) × (s < length a.slots)
      go closed k e = absurd (omega arith)
      go (listing p) k e = absurd (omega arith)
      go (reading t j i) k e = let q : t ≡ s = omega arith in (subst (λ (x : ℕ). live (name_of a.slots x) 0 ≡ true) q k.alive, omega (arith, q, k.slot, r.ns))
      go (writing t ub) k e = let q : t ≡ s = omega arith in (subst (λ (x : ℕ). live (name_of a.slots x) 0 ≡ true) q k.alive, omega (arith, q, k.slot, r.ns))

  pub own-live : (n : ℕ) → n < 8 → (s : ℕ) (ub : List ℕ) → block a n ≡ writing s ub → (s < length a.slots) × (live (name_of a.slots s) 0 ≡ true)
  own-live n hn s ub e = let p = open-live n s hn (ap opens e) in (p.1, p.0)
