-- A byte written, where a sector is taken or there is none: it meets its fate.
use Rattle.std.specs.Prelude.{◌≡◌}
use Rattle.std.proofs.Math.Path.{refl}
use mathlib.Core.List.{List, [], ◌∷◌}
use Prim.Native.Nat.{ℕ, ◌*◌, ◌<◌}
use native.Mathlib.Omega.{arith}
use Rattle.std.proofs.Math.ListN.{get_or}
use borrow.Author.Tests.{eq-eqb}
use Rattle.rules.specs.Directory.{slots_of}
use Rattle.rules.specs.Outcome.{and_then}
use Rattle.rules.specs.Transfer.{take_for, take_sector, sent, writing as write_byte}
use Rattle.laws.specs.Addresses.{Shape}
use Rattle.demands.specs.Ledger.{closed, writing, Ledger, Request, taken, transferred}
use Rattle.met.specs.Relation.{tb, Agrees}
use Rattle.met.specs.Meets.{Meets}
use Rattle.met.specs.Fills.{w, placed-is}
use Rattle.met.specs.Takes.{next-byte, no_more, take_meets}

module _ (M S : ℕ) (z : Shape M S) (img tab : List ℕ) (a : Ledger) (r : Agrees M S img tab a) (n : ℕ) (hn : n < 8) where
  first_byte : (q : Request) (s : ℕ) → get_or a.blocks n closed ≡ writing s [] → (x : List ℕ) → a.free ≡ x
      → Meets M S img tab n (and_then (take_for img tab M S (320 * n) (get_or (slots_of a.dir) s 0)) (sent 4 q.byte)) (taken M S a n q s x)
  first_byte q s e [] ef = (no_more M S z img tab a r n hn) s q.byte e ef
  first_byte q s e (k ∷ fr) ef = take_meets M S z img tab a r n hn s e k fr ef q.byte

  pub write_meets : (q : Request) (s : ℕ) (ub : List ℕ) → get_or a.blocks n closed ≡ writing s ub
      → Meets M S img tab n (write_byte img tab M S (320 * n) q.byte) (transferred M S a n q (writing s ub))
  unfolding write_byte take_sector
  write_meets q s [] e =
      let wr = w M S z img tab a r n hn s [] e in
      rw (eq-eqb (tb tab n 34) 0 (wr.idle refl), placed-is M S z img tab a r n hn s [] e) (first_byte q s e a.free refl)
  write_meets q s (x ∷ ub) e = (next-byte M S z img tab a r n hn) q s (x ∷ ub) e (omega arith)
