-- No second outcome fits the promise of a public function of this crate.
use Rattle.std.specs.Prelude.{◌≡◌, refl, Bool, List, [], ℕ, ◌+◌, Result, Ok, Err, eqb}
use Rattle.std.proofs.Math.Path.{sym, ap, ◌∙◌}
use Rattle.rules.specs.Bytes.{pick, over, one}
use Rattle.rules.specs.Refusals.{code}
use Rattle.rules.specs.Outcome.{left}
use Rattle.rules.specs.Directory.{place_of}
use Rattle.rules.specs.Block.{block_at, idle, in_use, preset, extension}
use Rattle.rules.specs.declared.refusal.Refusal.{Refusal}
use Rattle.blocks.specs.declared.activity.Activity.{Activity}
use Rattle.blocks.specs.declared.activity.Activity.TheVariants.{Closed, Reading, Writing, Directory}
use Rattle.blocks.specs.Activities.{activity_byte, Decodes}
use Rattle.laws.specs.Single.{Single, single, SingleDone, single-done}

pub in-use-single : (readers : Bool) (tab : List ℕ) (S slot : ℕ) → Single (in_use readers tab (place_of S slot))
in-use-single readers tab S slot = single (in_use readers tab (place_of S slot))

pub refuse-single : (tab : List ℕ) (f e : ℕ) → Single e × Single (over tab (f + 1) (one e))
refuse-single tab f e = (single e, single (over tab (f + 1) (one e)))

pub refuse-with-single : (tab : List ℕ) (f : ℕ) (e : Refusal) → Single e × Single (over tab (f + 1) (one (code e)))
refuse-with-single tab f e = (single e, single (over tab (f + 1) (one (code e))))

pub preset-single : (tab : List ℕ) (n i v : ℕ) → SingleDone (left [] tab (block_at n) (preset tab n i v))
preset-single tab n i v = single-done (left [] tab (block_at n) (preset tab n i v))

pub default-extension-single : (tab : List ℕ) (n code : ℕ) → SingleDone (left [] tab (block_at n) (extension tab n code))
default-extension-single tab n code = single-done (left [] tab (block_at n) (extension tab n code))

-- no two activities have one byte
activity_of : ℕ → Activity
activity_of byte = pick (eqb byte 0) Closed (pick (eqb byte 1) Reading (pick (eqb byte 2) Writing Directory))

activity-is : (a : Activity) → activity_of (activity_byte a) ≡ a
unfolding activity_of
activity-is Closed = refl
activity-is Reading = refl
activity-is Writing = refl
activity-is Directory = refl

pub try-from-single : (byte : ℕ) (x y : Result Activity Refusal) → Decodes byte x → Decodes byte y → x ≡ y
try-from-single byte (Ok a) (Ok b) h k = ap Ok (sym (activity-is a) ∙ ap activity_of (h ∙ sym k) ∙ activity-is b)
try-from-single byte (Ok a) (Err e) h k = absurd (k.1 a h)
try-from-single byte (Err e) (Ok b) h k = absurd (h.1 b k)
try-from-single byte (Err e) (Err d) h k = ap Err (h.0 ∙ sym k.0)

pub byte-single : (a : Activity) → Single (activity_byte a)
byte-single a = single (activity_byte a)

pub is-idle-single : (a : Activity) → Single (idle (activity_byte a))
is-idle-single a = single (idle (activity_byte a))
