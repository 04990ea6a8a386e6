-- Function 2, open for write: into a vacant slot, or the directory grows by the first free sector, and the file gets its first slot.
use Rattle.std.specs.Prelude.{◌≡◌, List, [], ◌∷◌, ◌++◌, ℕ, ◌+◌, ◌*◌, ◌/◌, ◌%◌, ◌≤◌, ◌<◌, get_or, set}
use Rattle.std.proofs.Math.Path.{refl, ap, ap₂}
use Rattle.std.proofs.Common.{sym, ◌∙◌, subst, arith, length-set, get_or-set_same, get_or-set_other}
use Rattle.std.proofs.Math.Bool.{true}
use Rattle.std.proofs.Math.Decide.{ℕ_discrete}
use Rattle.std.proofs.Math.ListN.{length}
use borrow.Author.Tests.{ne_eqb, lt-ltb}
use Rattle.rules.specs.Bytes.{word_at}
use Rattle.rules.specs.Stores.{store, stored}
use Rattle.rules.specs.Names.{legal}
use Rattle.rules.specs.Directory.{most_of_directory, first_slot_of, slots_at, slots_of, live, vacant}
use Rattle.rules.specs.Outcome.{done, on_none, or_else}
use Rattle.rules.specs.Files.{opened, new_entry, grow_stores, grow, open_write}
use Rattle.laws.specs.Addresses.{Shape}
use Rattle.chains.specs.Snoc.{length-snoc}
use Rattle.chains.specs.Directory.{listing-few, directory-is, slots-snoc}
use Rattle.demands.specs.Ledger.{File, no_file, Block, closed, listing, reading, writing, Ledger, entry_of, denied, granted, Sought, nowhere, slot, on_sought, file_named, vacant_slot, set_file, new_file, unused_slots, add_sector, grown, opened_to_write, request}
use Rattle.met.specs.Relation.{tb, opens, Holds, Writing, Keeps, Agrees, keeps_same, keeps-more, alone-step}
use Rattle.met.specs.Quiet.{writes-opens}
use Rattle.met.specs.Meets.{Meets, meets-unless}
use Rattle.met.specs.Searches.{legal-part, find-is, vacancy-is, looked_up, seek_found, vacant-hit}
use Rattle.met.specs.Frees.{count-is, first-is, first-data, first-index, off-is}
use Rattle.met.specs.Grown.{img', all_slots, first_slot, first-file, grown-agrees}
use Rattle.met.specs.Opens.{legal-live, tab', open-within, open_turn, nm, date, ne, l24, holds-made, keeps-made, open-write, made-entry}

-- ---- the directory grows: block n writes its first new slot

module _ (M S : ℕ) (z : Shape M S) (img tab : List ℕ) (a : Ledger) (r : Agrees M S img tab a) (n : ℕ) (hn : n < 8) (dr : tb tab n 3 ≡ 0) where
  abbrev entry : List ℕ
  entry = ne M S z img tab a r n hn dr

  l24' : length entry ≡ 24
  l24' = l24 M S z img tab a r n hn dr

  module _ (k : ℕ) (fr : List ℕ) (ef : a.free ≡ k ∷ fr) (alive : live (nm M S z img tab a r n hn dr) 0 ≡ true) where
    abbrev ks : List ℕ
    ks = a.dir ++ k ∷ []

    abbrev os : List ℕ
    os = slots_of a.dir

    abbrev new : File
    new = new_file (first_slot_of k) (nm M S z img tab a r n hn dr) (date M S z img tab a r n hn dr)

    abbrev more : List File
    more = new ∷ unused_slots (first_slot_of k + 24) 9

    made : (m : List ℕ) → ((i x : ℕ) → i < 24 → first_slot_of k + i ≡ x → get_or m x 0 ≡ get_or entry i 0) → Holds S m (first_slot_of k) new
    made m h = holds-made M S z img tab a r n hn dr alive m (first_slot_of k) h (first_slot_of k) refl

    abbrev image : List ℕ
    image = img' M S z img tab a r k fr ef entry l24' new refl made

    -- the table
    abbrev o : ℕ
    o = first_slot_of k

    abbrev table : List ℕ
    table = tab' M S z img tab a r n hn 2 o entry l24'

    abbrev it : Block
    it = writing (length a.slots) []

    keeps-it : Writing S (slots_of ks) table n (get_or (a.slots ++ more) (length a.slots) no_file) (length a.slots) []
    keeps-it =
        let e = first_slot M S z img tab a r k fr ef entry l24' new refl made in
        let f = first-file M S z img tab a r k fr ef entry l24' new refl made in
        subst (λ (g : File). Writing S (slots_of ks) table n g (length a.slots) []) (sym f)
        (keeps-made M S z img tab a r n hn dr alive (slots_of ks) (length a.slots) o
        (omega (arith, all_slots M S z img tab a r k fr ef entry l24' new refl made, r.ns)) e o)

    keeps-now : (n' : ℕ) → n' < 8 → Keeps S (slots_of ks) table n' (a.slots ++ more) (get_or (set a.blocks n it) n' closed)
    keeps-now n' h = go (ℕ_discrete n' n)
      where
        go : Dec (n' ≡ n) → Keeps S (slots_of ks) table n' (a.slots ++ more) (get_or (set a.blocks n it) n' closed)
        go (yes e) =
            subst (λ (c : ℕ). Keeps S (slots_of ks) table c (a.slots ++ more) (get_or (set a.blocks n it) c closed)) (sym e)
            (subst (λ (u : Block). Keeps S (slots_of ks) table n (a.slots ++ more) u) (sym (get_or-set_same a.blocks n it closed (omega (arith, r.nb)))) keeps-it)
        go (no e) =
            subst (λ (u : Block). Keeps S (slots_of ks) table n' (a.slots ++ more) u) (sym (get_or-set_other a.blocks n n' it closed e))
            (subst (λ (l : List ℕ). Keeps S l table n' (a.slots ++ more) (get_or a.blocks n' closed)) (sym (slots-snoc a.dir k))
            (keeps-more S os (slots_at (first_slot_of k) 10) table n' a.slots more (get_or a.blocks n' closed) r.ns
            (keeps_same S os tab table n' a.slots a.slots (get_or a.blocks n' closed) ((open_turn M S z img tab a r n hn 2 o entry l24').others n' e) (λ u s q. refl) (r.keeps n' h))))

    -- no block has the new slot
    not_yet : (n' : ℕ) → n' < 8 → opens (get_or a.blocks n' closed) ≤ length a.slots
    not_yet n' h = go (get_or a.blocks n' closed) (r.keeps n' h)
      where
        go : (b : Block) → Keeps S os tab n' a.slots b → opens b ≤ length a.slots
        go closed k = omega arith
        go (listing p) k = omega arith
        go (reading s j i) k = omega (arith, k.slot, r.ns)
        go (writing s ub) k = omega (arith, k.slot, r.ns)

    grow-step : Agrees M S image table (add_sector a k fr new n it)
    grow-step =
        grown-agrees M S z img tab a r k fr ef entry l24' new refl made table (set a.blocks n it) a.fcbs
        ((open_turn M S z img tab a r n hn 2 o entry l24').len ∙ r.tlen) (length-set a.blocks n it ∙ r.nb) keeps-now
        (alone-step M S z img tab a r n it hn
        (λ n' h e w q. omega (arith, not_yet n' h, q))
        (λ n' h e w q. omega (arith, not_yet n' h, q, writes-opens (get_or a.blocks n' closed) (omega (arith, q)))))

    -- the rule's stores are these
    stores-eq : stored img (grow_stores img tab M S (320 * n)) ≡ image
    unfolding grow_stores new_entry
    stores-eq =
        rw (
          off-is M S z img tab a r k fr ef,
          first-is M S z img tab a r k fr ef,
          first-index M S z img tab a r k fr ef,
          (directory-is M S z img a.dir r.listing r.dir).1,
        )
        refl

    not-longest : length a.dir < most_of_directory M S
    not-longest =
        omega (arith, length-snoc a.dir k, listing-few M S z ks grow-step.listing)

    grow-meets : (b : ℕ) → Meets M S img tab n (grow img tab M S (320 * n)) (grown M S a n (request tab (320 * n) b) (k ∷ fr))
    unfolding grow
    grow-meets b =
        rw (
          count-is M S z img tab a r k fr ef,
          ne_eqb (length (k ∷ fr)) 0 (omega arith),
          first-is M S z img tab a r k fr ef,
          first-data M S z img tab a r k fr ef,
          first-index M S z img tab a r k fr ef,
          (directory-is M S z img a.dir r.listing r.dir).1,
          lt-ltb (length a.dir) (most_of_directory M S) not-longest,
          stores-eq,
        ) (
          refl,
          unfold new_entry in ap (opened S 2 o) (made-entry M S z img tab a r n hn dr o),
          unfold opened new_entry in open-within M S z img tab a r n hn 2 o entry l24',
          unfold opened new_entry in λ plain. grow-step,
        )

  none_free : (b : ℕ) → a.free ≡ [] → Meets M S img tab n (grow img tab M S (320 * n)) (denied 7)
  unfolding grow
  none_free b ef = let c : word_at img 545 ≡ 0 = r.free.size ∙ ap length ef in rw c (refl, omega arith)

  grown-meets : (b : ℕ) → live (nm M S z img tab a r n hn dr) 0 ≡ true → (x : List ℕ) → a.free ≡ x
      → Meets M S img tab n (grow img tab M S (320 * n)) (grown M S a n (request tab (320 * n) b) x)
  grown-meets b v [] ef = none_free b ef
  grown-meets b v (k ∷ fr) ef = grow-meets k fr ef v b

  -- ---- the whole function
  abbrev name : List ℕ
  name = nm M S z img tab a r n hn dr

  abbrev day : List ℕ
  day = date M S z img tab a r n hn dr

  pub open-write-meets : (b : ℕ) → Meets M S img tab n (open_write img tab M S (320 * n)) (opened_to_write M S a n (request tab (320 * n) b))
  unfolding open_write opened_to_write opened new_entry
  open-write-meets b =
      meets-unless M S img tab n (legal tab (320 * n + 4)) (legal name 0) 21 _ _ (legal-part tab (320 * n + 4)) (omega arith)
      (λ h. rw (find-is M S z img tab a r name, vacancy-is M S z img tab a r)
      (go (legal-live name h) (file_named name a.slots) (vacant_slot a.slots) refl))
    where
      go : live name 0 ≡ true → (x y : Sought) → vacant_slot a.slots ≡ y
          → Meets M S img tab n (on_none (looked_up (slots_of a.dir) x) 5 3 (or_else (looked_up (slots_of a.dir) y) 5 (grow img tab M S (320 * n)) (λ slot. done 0 (store (slot / 256) (slot % 256) (new_entry tab (320 * n)) ∷ []) (opened S 2 slot (new_entry tab (320 * n))))))
          (on_sought x (on_sought y (grown M S a n (request tab (320 * n) b) a.free) (λ s. granted 0 (set_file a s (new_file (get_or a.slots s no_file).at name day) n (writing s [])) (opened S 2 (get_or a.slots s no_file).at (entry_of (new_file (get_or a.slots s no_file).at name day))))) (λ s. denied 3))
      go v (slot t) y e = (refl, omega arith)
      go v nowhere nowhere e = grown-meets b v a.free refl
      go v nowhere (slot s) e =
          let q = seek_found (λ x. vacant x 0) a.slots s e in
          let hs : s < length (slots_of a.dir) = omega (arith, q.low, r.ns) in (
            refl,
            ap₂ (opened S 2) (sym (r.holds s hs).at) (made-entry M S z img tab a r n hn dr (get_or a.slots s no_file).at),
            open-within M S z img tab a r n hn 2 (get_or (slots_of a.dir) s 0) entry l24',
            λ plain. open-write M S z img tab a r n hn dr s hs (vacant-hit (get_or a.slots s no_file).name q.hit) v,
          )
