-- No second outcome fits the promise of a public function of this crate; and the answer 0 says that a sector was taken.
use Rattle.std.specs.Prelude.{List, [], ◌∷◌, ℕ, ◌<◌, eqb, Result, Ok, Err}
use Rattle.std.proofs.Common.{arith}
use Rattle.rules.specs.Refusals.{code}
use Rattle.rules.specs.declared.refusal.Refusal.{Refusal}
use Rattle.rules.specs.Stores.{Store, Put, stored}
use Rattle.rules.specs.Outcome.{Outcome, refuse, done, left}
use Rattle.rules.specs.Transfer.{off_free, slot_in, take_for, take_sector}
use Rattle.laws.specs.Tests.{flag, pick_all}
use Rattle.laws.specs.Refusals.{code-some}
use Rattle.laws.specs.Fair.{on_slot-all}
use Rattle.laws.specs.Single.{Single, single, SingleDone, single-done}
use Rattle.taking.specs.declared.Block.{Block}
use Rattle.taking.specs.Take.{free_sector, free_fault, on_ok, follows, take_by, take-for, taken}

pub free-sector-single : (img : List ℕ) (M S : ℕ) → Single (free_sector img M S)
free-sector-single img M S = single (free_sector img M S)

pub free-fault-single : (img : List ℕ) (M S : ℕ) → Single (free_fault img M S)
free-fault-single img M S = single (free_fault img M S)

pub take-off-single : (img : List ℕ) (S : ℕ) → Single (stored img (off_free img S ∷ []))
take-off-single img S = single (stored img (off_free img S ∷ []))

pub slot-of-single : (img tab : List ℕ) (M S f : ℕ) → Single (slot_in img tab M S f)
slot-of-single img tab M S f = single (slot_in img tab M S f)

pub take-sector-single : (img tab : List ℕ) (M S f : ℕ) → SingleDone (left img tab f (taken (take_sector img tab M S f)))
take-sector-single img tab M S f = single-done (left img tab f (taken (take_sector img tab M S f)))

-- an outcome that is refused has a number that is not 0
pub data Numbered : Outcome → Type 0 where
  numbered : (e : ℕ) → 0 < e → Numbered (refuse e)
  fulfilled : {b : ℕ} {ss : List Store} {ps : List Put} → Numbered (done b ss ps)

by-numbered : (img : List ℕ) (M S slot : ℕ) (block : Block) → Numbered (take_by img M S slot block)
unfolding take_by
by-numbered img M S slot block =
    let ten = numbered 10 (omega arith) in
    pick_all Numbered (flag (follows M S block.position)) _ _ (go (free_sector img M S) (λ new. pick_all Numbered (eqb block.size 65535) _ _ ten fulfilled)) ten
  where
    go : (r : Result ℕ Refusal) {next : ℕ → Outcome} → ((new : ℕ) → Numbered (next new)) → Numbered (on_ok r next)
    go (Ok new) h = h new
    go (Err e) h = numbered (code e) (code-some e)

pub take-numbered : (img tab : List ℕ) (M S f : ℕ) → Numbered (take_sector img tab M S f)
unfolding take_sector
take-numbered img tab M S f =
    let five = numbered 5 (omega arith) in
    on_slot-all Numbered (slot_in img tab M S f) 5 5 (λ slot. take_for img tab M S f slot) five five
    (λ slot e. rw (take-for img tab M S f slot) (by-numbered img M S slot _))
