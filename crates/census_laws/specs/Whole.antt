-- The census as the code makes it: what it leaves before a refusal fills the outputs, and that this comes to the census of rules.
use Rattle.std.specs.Prelude.{Option, Some, None}
use Rattle.std.specs.Prelude.{◌≡◌, Bool, ℕ, ◌+◌, ◌*◌, replicate}
use Rattle.std.proofs.Math.Path.{refl, sym, ap, ap₂}
use Rattle.std.proofs.Common.{◌∙◌}
use Rattle.std.proofs.Math.Bool.{true, false}
use mathlib.Core.List.{List, ◌++◌}
use native.Mathlib.Omega.{arith}
use Rattle.std.proofs.Math.Decide.{ℕ_discrete}
use Rattle.std.proofs.Math.ListN.{length, length-append}
use Rattle.std.proofs.Math.Dec.{eqb}
use borrow.Author.Tests.{eq-eqb, ne_eqb}
use Rattle.rules.specs.Bytes.{pick, over, zeros}
use Rattle.rules.specs.Image.{first_free, last_free, free_count}
use Rattle.rules.specs.Directory.{directory_right, directory, slots}
use Rattle.rules.specs.Census.{unless, twins, free_right, files_right, numbers_from, files_numbers, directory_numbers, listed, directory_owner, owners, each_once, Survey, survey, fault, concluded}
use Rattle.laws.specs.Bytes.{over-append, length-zeros}
use Rattle.laws.specs.Addresses.{Shape}
use Rattle.laws.specs.Slots.{numbers_fit}
use Rattle.laws.specs.Surveys.{length-numbers, length-owners}
use Rattle.laws.proofs.Surveys.{numbers-listed}
use Rattle.census_laws.specs.Numbered.{files_numbered, numbered}
use Rattle.census_laws.specs.Marks.{Marked, marked, marking, Marks, marking-once, once-short}
use Rattle.laws.specs.Lent.{over-exact}
use Rattle.census_laws.specs.Walks.{laid, chain_at, sectors, files, Lists, lists-kept, lists-not, lists-to, chain-lists, sectors-lists, files-lists}

-- an answer and outputs, of which a refusal keeps the lengths alone: they are to be filled
unfoldable pub mended : ℕ → List ℕ → List ℕ → Survey
mended e xs ys = pick (eqb e 0) (survey e xs ys) (survey e (replicate (length xs) 65535) (replicate (length ys) 65535))

-- the faults of chains, in order
unfoldable pub chains_fault : List ℕ → ℕ → ℕ → ℕ
chains_fault img M S =
    unless (free_right img M S) 44
    (unless (files_right img M S (slots img M S)) 45
    (unless (each_once (M * S) (listed img M S)) 46
    0))

-- the end: n numbers were listed in xs; each once, by marks in ys, and then the owners there
pub data Ended : Type 0 where
  ended : ℕ → List ℕ → Ended

abbrev pub on_marked : Marked → (Bool → List ℕ → Ended) → Ended
on_marked (marked b ms) f = f b ms

-- the owners, where the directory has d data sectors
unfoldable pub owners_by : List ℕ → ℕ → ℕ → ℕ → List ℕ
owners_by img M S d = replicate (free_count img) 0 ++ (replicate d directory_owner ++ files_numbered img 1 (slots img M S))

unfoldable pub ending : List ℕ → ℕ → ℕ → ℕ → ℕ → List ℕ → List ℕ → Ended
ending img M S d n xs ys =
    pick (eqb n (length xs))
    (on_marked (marking (zeros (length ys)) xs) (λ b ms. pick b (ended 0 (over ms 0 (owners_by img M S d))) (ended 46 ms)))
    (ended 46 ys)

-- the slot at byte 16 of the information record
abbrev pub free_slot : ℕ
free_slot = 528

marks : (img : List ℕ) (M S : ℕ) → length (listed img M S) ≡ M * S → Marks (zeros (M * S)) (each_once (M * S) (listed img M S)) (marking (zeros (M * S)) (listed img M S))
marks img M S full = marking-once (M * S) (listed img M S) full

-- ---- a refusal of chains
module _ (img : List ℕ) (M S : ℕ) (xs ys : List ℕ) (shape : Shape M S) (lx : length xs ≡ M * S) (ly : length ys ≡ M * S) where
  refused : (e : ℕ) (xs' ys' : List ℕ) → (e ≡ 0 → ⊥) → length xs' ≡ length xs → length ys' ≡ length ys → mended e xs' ys' ≡ concluded img M S e
  unfolding mended concluded
  refused e xs' ys' h p q = rw (ne_eqb e 0 h, p, q, lx, ly) refl

  -- the free chain
  module _ {r : Option ℕ} {xs₁ : List ℕ} (a : laid r xs₁ ≡ chain_at img M S free_slot xs 0) where
    free-lists : Lists (free_right img M S) (numbers_from img S (free_count img) (first_free img)) xs 0 0 (chain_at img M S free_slot xs 0)
    unfolding chain_at free_right
    free-lists = chain-lists img M S (first_free img) (last_free img) (free_count img) xs 0

    pub free-wrong : r ≡ None → mended 44 xs₁ ys ≡ concluded img M S (chains_fault img M S)
    unfolding chains_fault
    free-wrong t = rw (lists-not free-lists a t) (refused 44 xs₁ ys (λ z. omega arith) (lists-kept free-lists a) refl)

    -- then the directory's own
    module _ {m : ℕ} (t : r ≡ Some m) {k : ℕ} (c : k ≡ free_count img) {d : ℕ} {xs₂ : List ℕ} (o : laid (Some d) xs₂ ≡ sectors S (directory img M S) xs₁ k 0) where
      free-right : free_right img M S ≡ true
      free-right = (lists-to free-lists a t).0

      own-listed : Lists true (directory_numbers S (directory img M S)) xs₁ (k + 0) 0 (sectors S (directory img M S) xs₁ k 0)
      own-listed = sectors-lists S (directory img M S) xs₁ k 0

      -- then the files
      module _ {q : Option ℕ} {xs₃ : List ℕ} (b : laid q xs₃ ≡ files img M S (slots img M S) xs₂ (k + d)) where
        files-listed : Lists (files_right img M S (slots img M S)) (files_numbers img S (slots img M S)) xs₂ (k + d) (k + d) (files img M S (slots img M S) xs₂ (k + d))
        files-listed = files-lists img M S (slots img M S) xs₂ (k + d)

        kept : length xs₃ ≡ length xs
        kept = lists-kept files-listed b ∙ lists-kept own-listed o ∙ lists-kept free-lists a

        pub files-wrong : q ≡ None → mended 45 xs₃ ys ≡ concluded img M S (chains_fault img M S)
        unfolding chains_fault
        files-wrong z = rw (free-right, lists-not files-listed b z) (refused 45 xs₃ ys (λ w. omega arith) kept refl)

        -- then each once, and the owners
        module _ {n : ℕ} (z : q ≡ Some n) {e : ℕ} {ys₁ : List ℕ} (g : ended e ys₁ ≡ ending img M S d n xs₃ ys) where
          files-right : files_right img M S (slots img M S) ≡ true
          files-right = (lists-to files-listed b z).0

          abbrev own : List ℕ
          own = directory_numbers S (directory img M S)

          abbrev free : List ℕ
          free = numbers_from img S (free_count img) (first_free img)

          own-length : d ≡ length own
          own-length = omega (arith, (lists-to own-listed o refl).1)

          list_length : n ≡ length (listed img M S)
          unfolding listed
          list_length =
              omega (
                arith,
                (lists-to files-listed b z).1,
                own-length,
                length-numbers img S (free_count img) (first_free img),
                length-append free (own ++ files_numbers img S (slots img M S)),
                length-append own (files_numbers img S (slots img M S)),
              )

          list-is : xs₃ ≡ over xs 0 (listed img M S)
          unfolding listed
          list-is =
              let p : k + 0 ≡ 0 + length free = omega (arith, length-numbers img S (free_count img) (first_free img)) in
              let q : k + d ≡ 0 + length free + length own = omega (arith, own-length, length-numbers img S (free_count img) (first_free img)) in
              let r : xs₂ ≡ over (over xs 0 free) (0 + length free) own =
              (lists-to own-listed o refl).2 ∙ ap₂ (λ (x : List ℕ) (i : ℕ). over x i own) (lists-to free-lists a t).2 p in
              (lists-to files-listed b z).2
              ∙ ap₂ (λ (x : List ℕ) (i : ℕ). over x i (files_numbers img S (slots img M S))) r q
              ∙ sym (over-append xs 0 free (own ++ files_numbers img S (slots img M S)) ∙ over-append (over xs 0 free) (0 + length free) own (files_numbers img S (slots img M S)))

          owners-are : owners_by img M S d ≡ owners img M S
          unfolding owners_by owners
          owners-are = rw (own-length, numbered img 1 (slots img M S) (omega (arith, numbers_fit img M S shape))) refl

          fault-is : chains_fault img M S ≡ pick (each_once (M * S) (listed img M S)) 0 46
          unfolding chains_fault
          fault-is = rw (free-right, files-right) refl

          -- not M-as-S numbers: they cannot hold each once
          short : (length (listed img M S) ≡ M * S → ⊥) → mended e xs₃ ys₁ ≡ concluded img M S (chains_fault img M S)
          unfolding ending
          short h =
              let f : eqb n (length xs₃) ≡ false = ne_eqb n (length xs₃) (λ w. h (omega (arith, kept, list_length))) in
              let w : ended e ys₁ ≡ ended 46 ys = g ∙ rw f refl in
              let e46 : e ≡ 46 = cc in
              let same : ys₁ ≡ ys = cc in
              rw (e46, same, fault-is, once-short (M * S) (listed img M S) (numbers-listed img M S shape.sectors free-right files-right) h)
              (refused 46 xs₃ ys (λ v. omega arith) kept refl)

          module _ (full : length (listed img M S) ≡ M * S) where
            xs-is : xs₃ ≡ listed img M S
            xs-is = list-is ∙ over-exact xs (listed img M S) (omega arith)

            end_is : ended e ys₁ ≡ pick (each_once (M * S) (listed img M S)) (ended 0 (over (marks img M S full).after 0 (owners img M S))) (ended 46 (marks img M S full).after)
            unfolding ending
            end_is =
                let f : eqb n (length xs₃) ≡ true = eq-eqb n (length xs₃) (omega (arith, kept, list_length)) in
                g ∙ rw (f, ly, xs-is, (marks img M S full).is, owners-are) refl

            owned : over (marks img M S full).after 0 (owners img M S) ≡ owners img M S
            owned = over-exact (marks img M S full).after (owners img M S) (omega (arith, length-owners img M S, (marks img M S full).kept, length-zeros (M * S)))

            all : (b : Bool) → each_once (M * S) (listed img M S) ≡ b
                → ended e ys₁ ≡ pick b (ended 0 (over (marks img M S full).after 0 (owners img M S))) (ended 46 (marks img M S full).after)
                → mended e xs₃ ys₁ ≡ concluded img M S (chains_fault img M S)
            unfolding mended concluded
            all true h w =
                let e0 : e ≡ 0 = cc in
                let same : ys₁ ≡ owners img M S = let v : ys₁ ≡ over (marks img M S full).after 0 (owners img M S) = cc in v ∙ owned in
                rw (e0, same, xs-is, fault-is, h) refl
            all false h w =
                let e46 : e ≡ 46 = cc in
                let same : ys₁ ≡ (marks img M S full).after = cc in
                rw (fault-is, h, e46)
                (refused 46 xs₃ ys₁ (λ v. omega arith) kept (omega (arith, ap length same, (marks img M S full).kept, length-zeros (M * S))))

          pub ended-right : mended e xs₃ ys₁ ≡ concluded img M S (chains_fault img M S)
          ended-right = go (ℕ_discrete (length (listed img M S)) (M * S))
            where
              go : Dec (length (listed img M S) ≡ M * S) → mended e xs₃ ys₁ ≡ concluded img M S (chains_fault img M S)
              go (yes full) = all full (each_once (M * S) (listed img M S)) refl (end_is full)
              go (no h) = short h

-- ---- directory and names before the chains
module _ (img : List ℕ) (M S : ℕ) (xs ys : List ℕ) (shape : Shape M S) (lx : length xs ≡ M * S) (ly : length ys ≡ M * S) {right : Bool} (a : right ≡ directory_right img M S) where
  pub tried-directory : right ≡ false → mended 42 xs ys ≡ concluded img M S (fault img M S)
  unfolding fault
  tried-directory h = rw (← a, h) (refused img M S xs ys shape lx ly 42 xs ys (λ v. omega arith) refl refl)

  module _ {twin : Bool} (h : right ≡ true) (c : twin ≡ twins img (slots img M S)) where
    pub tried-twins : (ys₁ : List ℕ) → twin ≡ true → length ys₁ ≡ length ys → mended 43 xs ys₁ ≡ concluded img M S (fault img M S)
    unfolding fault
    tried-twins ys₁ l k = rw (← a, h, ← c, l) (refused img M S xs ys shape lx ly 43 xs ys₁ (λ v. omega arith) refl k)

    pub tried-chains : {w : Survey} → twin ≡ false → w ≡ concluded img M S (chains_fault img M S) → w ≡ concluded img M S (fault img M S)
    unfolding fault chains_fault
    tried-chains l d = rw (← a, h, ← c, l) d

-- ---- lengths before all that, and a refusal's filling after it
unfoldable pub sized : List ℕ → ℕ → ℕ → List ℕ → List ℕ → Survey
sized img M S xs ys =
    unless (eqb (length xs) (M * S)) (survey 40 xs ys)
    (unless (eqb (length ys) (M * S)) (survey 40 xs ys)
    (concluded img M S (fault img M S)))

module _ (img : List ℕ) (M S : ℕ) (xs ys : List ℕ) {n : ℕ} (c : n ≡ M * S) where
  pub sized-first : (length xs ≡ n → ⊥) → survey 40 xs ys ≡ sized img M S xs ys
  unfolding sized
  sized-first h = rw (ne_eqb (length xs) (M * S) (λ k. h (omega arith))) refl

  module _ (p : length xs ≡ n) where
    pub sized-second : (length ys ≡ n → ⊥) → survey 40 xs ys ≡ sized img M S xs ys
    unfolding sized
    sized-second h = rw (eq-eqb (length xs) (M * S) (omega arith), ne_eqb (length ys) (M * S) (λ k. h (omega arith))) refl

    module _ (q : length ys ≡ n) (e : ℕ) (xs₁ ys₁ : List ℕ) (d : mended e xs₁ ys₁ ≡ concluded img M S (fault img M S)) where
      sized-is : mended e xs₁ ys₁ ≡ sized img M S xs ys
      unfolding sized
      sized-is = rw (eq-eqb (length xs) (M * S) (omega arith), eq-eqb (length ys) (M * S) (omega arith)) d

      pub sized-done : e ≡ 0 → survey e xs₁ ys₁ ≡ sized img M S xs ys
      unfolding mended
      sized-done h = rw (← sized-is, eq-eqb e 0 h) refl

      pub sized-filled : {xs₂ ys₂ : List ℕ} → (e ≡ 0 → ⊥) → xs₂ ≡ replicate (length xs₁) 65535 → ys₂ ≡ replicate (length ys₁) 65535
          → survey e xs₂ ys₂ ≡ sized img M S xs ys
      unfolding mended
      sized-filled h r s = rw (← sized-is, ne_eqb e 0 h, r, s) refl
