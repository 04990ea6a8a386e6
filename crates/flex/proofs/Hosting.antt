-- The promises of the entries over blocks, from what the functions behind them promise.
use mathlib.Core.Path.{◌≡◌, ap₂, ◌∙◌}
use mathlib.Core.List.{List, []}
use Prim.Native.Nat.{ℕ, ◌+◌, ◌*◌}
use Rattle.std.specs.Prelude.{Result, Ok, Err}
use native.Mathlib.Omega.{arith}
use Rattle.rules.specs.Refusals.{code, number_of, byte_of}
use Rattle.rules.specs.declared.refusal.Refusal.{Refusal}
use Rattle.rules.specs.Outcome.{out, left}
use Rattle.rules.specs.Block.{block_at, preset, extension}
use Rattle.rules.specs.Call.{call}
use Rattle.rules.specs.Host.{packed}
use Rattle.laws.specs.Parts.{parts}
use Rattle.flex.specs.Promised.{PresetPromise, ExtensionPromise, CallPromise}

pub presetting : (tab : List ℕ) (n i v : ℕ) {a r : ℕ} {t : List ℕ} → out a 0 [] t ≡ left [] tab (block_at n) (preset tab n i v) → r ≡ a → PresetPromise tab n i v r t
presetting tab n i v h e =
    let p = parts [] tab (block_at n) (preset tab n i v) h in
    record { answers = e ∙ p.answers; tables = p.tables }

pub extending : (tab : List ℕ) (n c : ℕ) {a r : ℕ} {t : List ℕ} → out a 0 [] t ≡ left [] tab (block_at n) (extension tab n c) → r ≡ a → ExtensionPromise tab n c r t
extending tab n c h e =
    let p = parts [] tab (block_at n) (extension tab n c) h in
    record { answers = e ∙ p.answers; tables = p.tables }

-- done, with the byte c; or refused, with the number a: r is 256 times the answer plus the byte
hosting : (img tab : List ℕ) (n b r : ℕ) {a c : ℕ} {i t : List ℕ} → r ≡ 256 * a + c → out a c i t ≡ left img tab (block_at n) (call img tab n b) → CallPromise img tab n b r i t
hosting img tab n b r e h =
    let p = parts img tab (block_at n) (call img tab n b) h in
    record { answers = e ∙ ap₂ packed p.answers p.gives; images = p.images; tables = p.tables }

module _ (img tab : List ℕ) (n b : ℕ) {z : Result ℕ Refusal} {i t : List ℕ} (h : out (number_of z) (byte_of z) i t ≡ left img tab (block_at n) (call img tab n b)) where
  pub hosting_done : {c : ℕ} → z ≡ Ok c → CallPromise img tab n b c i t
  hosting_done {c} e = hosting img tab n b c {a = 0} {c = c} (omega arith) (rw e at h)

  pub hosting-refused : {x : Refusal} {a : ℕ} → z ≡ Err x → a ≡ code x → CallPromise img tab n b (256 * a) i t
  hosting-refused {x} {a} e d = hosting img tab n b (256 * a) {a = code x} {c = 0} (omega (arith, d)) (rw e at h)
