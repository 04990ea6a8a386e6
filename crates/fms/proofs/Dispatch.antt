-- Laws of the dispatch: what a function leaves is what the call's `perform` leaves, where the code is that function's.
use mathlib.Core.Path.{◌≡◌, refl}
use mathlib.Core.List.{List, []}
use Prim.Native.Nat.{ℕ, ◌+◌}
use lib.ListN.{get_or}
use borrow.Author.Tests.{ne_eqb}
use Rattle.rules.specs.Outcome.{Outcome, Out, out, left, settled}
use Rattle.rules.specs.Block.{function_in}
use Rattle.rules.specs.Transfer.{transfer, close, reading, writing}
use Rattle.rules.specs.Files.{open_read, open_write, rewind, open_directory, next_slot, put_slot, read_sector, write_sector, delete, rename}
use Rattle.rules.specs.Call.{perform}
use Rattle.fms.specs.declared.function.Function.{Function}
use Rattle.fms.specs.declared.function.Function.TheVariants.{Transfer, OpenRead, OpenWrite, Close, Rewind, OpenDirectory, NextSlot, PutSlot, ReadSector, WriteSector, Delete, Rename}
use Rattle.fms.specs.Functions.{function_byte}

-- what a function without a byte leaves, as a reply
plainly : {x y a : ℕ} {i t : List ℕ} {o : Out} → (x ≡ a) × (y ≡ 0) → out a 0 i t ≡ o → out x y i t ≡ o
plainly e h = rw (e.0, e.1) h

-- a function that looks at no image leaves it as it is
rewound : (img tab t : List ℕ) (f : ℕ) → out 0 0 [] t ≡ left [] tab f (settled rewind) → out 0 0 img t ≡ left img tab f (settled rewind)
unfolding rewind
rewound img tab t f h = cc

listing : (img tab t : List ℕ) (f : ℕ) → out 0 0 [] t ≡ left [] tab f (settled open_directory) → out 0 0 img t ≡ left img tab f (settled open_directory)
unfolding open_directory
listing img tab t f h = cc

-- what each does
abbrev does : List ℕ → List ℕ → ℕ → ℕ → ℕ → ℕ → Function → Outcome
does img tab M S f b Transfer = transfer img tab M S f b
does img tab M S f b OpenRead = open_read img tab M S f
does img tab M S f b OpenWrite = open_write img tab M S f
does img tab M S f b Close = close img tab M S f
does img tab M S f b Rewind = rewind
does img tab M S f b OpenDirectory = open_directory
does img tab M S f b NextSlot = next_slot img tab M S f
does img tab M S f b PutSlot = put_slot img tab M S f
does img tab M S f b ReadSector = read_sector img tab M S f
does img tab M S f b WriteSector = write_sector img tab M S f
does img tab M S f b Delete = delete img tab M S f
does img tab M S f b Rename = rename img tab M S f

module _ (img tab : List ℕ) (M S f b : ℕ) where
  performed : (g : Function) → function_byte g ≡ function_in tab f → perform img tab M S f b ≡ does img tab M S f b g
  unfolding perform
  performed Transfer e = rw (← e) refl
  performed OpenRead e = rw (← e) refl
  performed OpenWrite e = rw (← e) refl
  performed Close e = rw (← e) refl
  performed Rewind e = rw (← e) refl
  performed OpenDirectory e = rw (← e) refl
  performed NextSlot e = rw (← e) refl
  performed PutSlot e = rw (← e) refl
  performed ReadSector e = rw (← e) refl
  performed WriteSector e = rw (← e) refl
  performed Delete e = rw (← e) refl
  performed Rename e = rw (← e) refl

  module _ {g : Function} (e : function_byte g ≡ function_in tab f) where
    pub performs : {h : Function} {o : Out} → g ≡ h → o ≡ left img tab f (settled (does img tab M S f b h)) → o ≡ left img tab f (settled (perform img tab M S f b))
    performs k q = rw (performed g e, k) q

    pub performs-plain : {h : Function} {x y a : ℕ} {i t : List ℕ} → g ≡ h → (x ≡ a) × (y ≡ 0) → out a 0 i t ≡ left img tab f (settled (does img tab M S f b h))
        → out x y i t ≡ left img tab f (settled (perform img tab M S f b))
    performs-plain k p q = performs k (plainly p q)

    pub performs-rewind : {t : List ℕ} → g ≡ Rewind → out 0 0 [] t ≡ left [] tab f (settled rewind) → out 0 0 img t ≡ left img tab f (settled (perform img tab M S f b))
    performs-rewind {t} k q = performs k (rewound img tab t f q)

    pub performs-directory : {t : List ℕ} → g ≡ OpenDirectory → out 0 0 [] t ≡ left [] tab f (settled open_directory) → out 0 0 img t ≡ left img tab f (settled (perform img tab M S f b))
    performs-directory {t} k q = performs k (listing img tab t f q)

-- ---- function 0

module _ (img tab : List ℕ) (M S f b : ℕ) {act : ℕ} (c : act ≡ get_or tab (f + 2) 0) where
  pub sends : {x y a : ℕ} {i t : List ℕ} → (act ≡ 1 → ⊥) → (x ≡ a) × (y ≡ 0) → out a 0 i t ≡ left img tab f (settled (writing img tab M S f b))
      → out x y i t ≡ left img tab f (settled (transfer img tab M S f b))
  unfolding transfer
  sends k e h = rw (← c, ne_eqb act 1 k) (plainly e h)

  pub gets : {o : Out} → act ≡ 1 → o ≡ left img tab f (settled (reading img tab M S f)) → o ≡ left img tab f (settled (transfer img tab M S f b))
  unfolding transfer
  gets k h = rw (← c, k) h
