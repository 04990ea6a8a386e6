-- What every call, preset and default extension leaves: answers and bytes, lengths, where stores lie, what a refusal changes.
use Rattle.std.specs.Prelude.{◌≡◌, ◌≢◌, true, ℕ, ◌+◌, ◌*◌, ◌≤◌, ◌<◌, length, get_or, eqb, ltb}
use Rattle.std.proofs.Math.Path.{refl}
use Rattle.std.proofs.Common.{sym, subst, arith, eq-eqb, lt-ltb, eqb-true, ltb-true}
use mathlib.Core.List.{List, [], ◌∷◌, ◌++◌}
use Rattle.rules.specs.Bytes.{byte_at, within, one}
use Rattle.rules.specs.Stores.{Store, stored, Put, put, puts}
use Rattle.rules.specs.Directory.{member}
use Rattle.rules.specs.Outcome.{Outcome, refuse, done, Effect, effect, answer, given, on_image, on_block, settled}
use Rattle.rules.specs.Block.{blocks, block_length, block_at, extension_field, activity_in, idle, on_table, presettable, preset_in, preset, extensions, extension_in, extension}
use Rattle.rules.specs.Call.{asked, call}
use Rattle.laws.specs.Tests.{either, within-is, pick_all, pick-cases}
use Rattle.laws.specs.Bytes.{length-one}
use Rattle.laws.specs.Each.{Each, each_at, each_member, member-there, among}
use Rattle.laws.specs.Small.{Small, small-each}
use Rattle.laws.specs.Stores.{length-stored, length-puts, puts-off, Inside, Within, small-stored, small-puts}
use Rattle.laws.specs.Fair.{Run, run-one, GoodPut, good-put, puts-within, puts-small, stores-inside, stores-small, Done, Fair, fair-still, fair-then}
use Rattle.laws.specs.Facts.{Given}

-- ---- lengths, of any effect

pub lengths-kept : (img tab : List ℕ) (f : ℕ) (e : Effect)
    → (length (stored img (on_image e)) ≡ length img) × (length (puts tab f (on_block e)) ≡ length tab)
lengths-kept img tab f e = (length-stored (on_image e) img, length-puts (on_block e) tab f)

-- ---- the numbers

-- those that are given back for a refusal, 13 for table or number among them
abbrev pub refusal_numbers : List ℕ
refusal_numbers = 1 ∷ 2 ∷ 3 ∷ 4 ∷ 5 ∷ 7 ∷ 8 ∷ 9 ∷ 10 ∷ 11 ∷ 12 ∷ 13 ∷ 16 ∷ 17 ∷ 18 ∷ 21 ∷ []

abbrev pub answer_numbers : List ℕ
answer_numbers = 0 ∷ refusal_numbers

-- what repair gives back
abbrev pub repair_numbers : List ℕ
repair_numbers = 0 ∷ 2 ∷ 13 ∷ 41 ∷ 42 ∷ 43 ∷ []

-- those of any function are such
unfoldable pub Stated : List ℕ → Type 0
Stated es = among es refusal_numbers ≡ true

-- a refusal's number is a byte, and not 0
pub number_is : (e : ℕ) → member e refusal_numbers ≡ true → (1 ≤ e) × (e < 256)
number_is e h = (each_member (λ (x : ℕ). 1 ≤ x) refusal_numbers e (omega arith) h, each_member (λ (x : ℕ). x < 256) refusal_numbers e (omega arith) h)

-- ---- what an effect leaves

-- a refusal: byte 0, no store, and of the table at most byte 1 of the block
pub record Refused (tab : List ℕ) (f : ℕ) (e : Effect) : Type 0 where
  pub byte : given e ≡ 0
  pub image : on_image e ≡ []
  pub table : (p : ℕ) → p ≢ f + 1 → byte_at (puts tab f (on_block e)) p ≡ byte_at tab p

-- one of these answers, at most n stores; G where image, table and the byte sent are below 256
pub record Lawful (G : Type 0) (img tab : List ℕ) (f : ℕ) (es : List ℕ) (n : ℕ) (e : Effect) : Type 0 where
  pub answers : member (answer e) es ≡ true
  pub byte : G → given e < 256
  pub few : length (on_image e) ≤ n
  pub inside : Each (Inside (length img)) (on_image e)
  pub within : G → Each Within (on_block e)
  pub image_small : G → Small (stored img (on_image e))
  pub table_small : G → Small (puts tab f (on_block e))
  pub refused : answer e ≢ 0 → Refused tab f e

refused-number : (tab : List ℕ) (f e : ℕ) → Refused tab f (effect e 0 [] (put 1 (one e) ∷ []))
refused-number tab f e =
    record { byte = refl; image = refl; table = λ p k. puts-off (put 1 (one e) ∷ []) tab f p ((λ a c. k (omega (arith, length-one e))), tt) }

module _ (img tab : List ℕ) (b f : ℕ) (es : List ℕ) (n : ℕ) where
  abbrev G : Type 0
  G = Given img tab b

  lawful : (a c : ℕ) (ss : List Store) (ps : List Put) → member a es ≡ true → Done G (length img) n c ss ps
      → (a ≢ 0 → Refused tab f (effect a c ss ps)) → Lawful G img tab f es n (effect a c ss ps)
  lawful a c ss ps m d r =
      record {
        answers = m;
        byte = d.byte;
        few = d.few;
        inside = stores-inside G (length img) ss d.stores;
        within = puts-within G ps d.block;
        image_small = λ g. small-stored ss img g.image (stores-small G (length img) ss d.stores g);
        table_small = λ g. small-puts ps tab f g.table (puts-small G ps d.block g);
        refused = r;
      }

  -- done, without a store into the image
  lawful-done : (ps : List Put) → member 0 es ≡ true → Each (GoodPut G) ps → Lawful G img tab f es n (effect 0 0 [] ps)
  lawful-done ps m p = lawful 0 0 [] ps m (fair-still G (length img) [] n ps p) (λ h. absurd (h refl))

  -- refused, and nothing stored
  pub lawful-nothing : (e : ℕ) → member e es ≡ true → Lawful G img tab f es n (effect e 0 [] [])
  lawful-nothing e m = lawful e 0 [] [] m (fair-still G (length img) [] n [] tt) (λ h. record { byte = refl; image = refl; table = λ p k. refl })

-- what holds of 13 and of the rest holds where table and number are looked at first
pub on_table-all : (P : Effect → Type 0) (tab : List ℕ) (n : ℕ) (e : Effect) → P e → P (effect 13 0 [] []) → P (on_table tab n e)
on_table-all P tab n e p q =
    pick_all P (eqb (length tab) (block_length * blocks)) _ _ (pick_all P (ltb n blocks) e (effect 13 0 [] []) p q) q

-- ---- the call

module _ (img tab : List ℕ) (b f n : ℕ) where
  abbrev H : Type 0
  H = Given img tab b

  pub lawful-settled : (o : Outcome) → Fair H (length img) refusal_numbers n o → Lawful H img tab f answer_numbers n (settled o)
  unfolding member
  lawful-settled (refuse e) m =
      lawful img tab b f answer_numbers n e 0 [] (put 1 (one e) ∷ []) (member-there e 0 refusal_numbers m)
      (fair-still H (length img) [] n _ (good-put H 1 1 _ (run-one H e (λ g. (number_is e m).1)) (omega arith), tt))
      (λ h. refused-number tab f e)
  lawful-settled (done c ss ps) d =
      lawful img tab b f answer_numbers n 0 c ss (ps ++ put 1 (one 0) ∷ []) refl
      (fair-then H (length img) [] n (done c ss ps) (put 1 (one 0) ∷ []) d (good-put H 1 1 _ (run-one H 0 (λ g. omega arith)) (omega arith), tt))
      (λ h. absurd (h refl))

-- what table and number let through, and what not
pub table-right : (tab : List ℕ) (n : ℕ) (e : Effect) → length tab ≡ block_length * blocks → n < blocks → on_table tab n e ≡ e
table-right tab n e h k = rw (eq-eqb (length tab) (block_length * blocks) h, lt-ltb n blocks k) refl

pub table-wrong : (tab : List ℕ) (n : ℕ) (e : Effect) → (length tab ≡ block_length * blocks → n < blocks → ⊥) → on_table tab n e ≡ effect 13 0 [] []
table-wrong tab n e h =
    pick-cases (λ (x : Effect). x ≡ effect 13 0 [] []) (eqb (length tab) (block_length * blocks)) _ _
    (λ p. pick-cases (λ (x : Effect). x ≡ effect 13 0 [] []) (ltb n blocks) _ _ (λ q. absurd (h (eqb-true _ _ p) (ltb-true n blocks q))) (λ q. refl))
    (λ p. refl)

pub call-right : (img tab : List ℕ) (n b : ℕ) → length tab ≡ block_length * blocks → n < blocks → call img tab n b ≡ settled (asked img tab (block_at n) b)
unfolding call
call-right img tab n b h k = table-right tab n (settled (asked img tab (block_at n) b)) h k

-- 13 by table or number stores nothing
pub call-wrong : (img tab : List ℕ) (n b : ℕ) → (length tab ≡ block_length * blocks → n < blocks → ⊥) → call img tab n b ≡ effect 13 0 [] []
unfolding call
call-wrong img tab n b h = table-wrong tab n (settled (asked img tab (block_at n) b)) h

-- a refusal's effect is its number in byte 1, and nothing else
pub settled-refused : (o : Outcome) → answer (settled o) ≢ 0
    → settled o ≡ effect (answer (settled o)) 0 [] (put 1 (one (answer (settled o))) ∷ [])
settled-refused (refuse e) h = refl
settled-refused (done c ss ps) h = absurd (h refl)

pub call-refused : (img tab : List ℕ) (n b : ℕ) → length tab ≡ block_length * blocks → n < blocks → answer (call img tab n b) ≢ 0
    → call img tab n b ≡ effect (answer (call img tab n b)) 0 [] (put 1 (one (answer (call img tab n b))) ∷ [])
call-refused img tab n b h k =
    subst (λ (e : Effect). answer e ≢ 0 → e ≡ effect (answer e) 0 [] (put 1 (one (answer e)) ∷ [])) (sym (call-right img tab n b h k))
    (settled-refused (asked img tab (block_at n) b))

-- ---- preset and default extension

-- a preset that is allowed lies inside the block
pub presettable-is : (i : ℕ) → presettable i ≡ true → i < block_length
unfolding presettable
presettable-is i h =
    either (within 3 27 i) _ h (λ e. omega (arith, within-is 3 27 i e))
    (λ k. either (within 30 31 i) _ k (λ e. omega (arith, within-is 30 31 i e)) (λ e. omega (arith, within-is 53 319 i e)))

-- lawful, without a store into the image, and on a refusal nothing is stored
module _ (img tab : List ℕ) (b f : ℕ) (es : List ℕ) where
  abbrev pub Quiet : Effect → Type 0
  Quiet e = Lawful (Given img tab b) img tab f es 0 e × (answer e ≢ 0 → on_block e ≡ [])

  quiet-done : (ps : List Put) → member 0 es ≡ true → Each (GoodPut (Given img tab b)) ps → Quiet (effect 0 0 [] ps)
  quiet-done ps m p = (lawful-done img tab b f es 0 ps m p, λ h. absurd (h refl))

  quiet-nothing : (e : ℕ) → member e es ≡ true → Quiet (effect e 0 [] [])
  quiet-nothing e m = (lawful-nothing img tab b f es 0 e m, λ h. refl)

abbrev pub preset_numbers : List ℕ
preset_numbers = 0 ∷ 13 ∷ 18 ∷ []

pub preset-quiet : (img tab : List ℕ) (n i v : ℕ) → Quiet img tab v (block_at n) preset_numbers (preset tab n i v)
unfolding preset preset_in member
preset-quiet img tab n i v =
    on_table-all Q tab n (preset_in tab (block_at n) i v)
    (pick-cases Q (eqb i 0) _ _ (λ e. stored_one (omega (arith, eqb-true i 0 e)))
    (λ e. pick-cases Q (presettable i) _ _
    (λ p. pick_all Q (idle (activity_in tab (block_at n))) _ _ (stored_one (presettable-is i p)) (nothing 18 refl))
    (λ p. nothing 18 refl)))
    (nothing 13 refl)
  where
    Q : Effect → Type 0
    Q e = Quiet img tab v (block_at n) preset_numbers e

    stored_one : i < block_length → Q (effect 0 0 [] (put i (one v) ∷ []))
    stored_one h =
        quiet-done img tab v (block_at n) preset_numbers (put i (one v) ∷ []) refl
        (good-put (Given img tab v) i 1 _ (run-one (Given img tab v) v (λ g. g.byte)) (omega arith), tt)

    nothing : (e : ℕ) → member e preset_numbers ≡ true → Q (effect e 0 [] [])
    nothing e m = quiet-nothing img tab v (block_at n) preset_numbers e m

-- each extension is three bytes
ThreeBytes : List ℕ → Type 0
ThreeBytes vs = (length vs ≡ 3) × Each (λ (v : ℕ). v < 256) vs

extensions-three : Each ThreeBytes extensions
unfolding extensions ThreeBytes
extensions-three = (omega arith, (omega arith, (omega arith, (omega arith, (omega arith, (omega arith, (omega arith, (omega arith, (omega arith, (omega arith, (omega arith, (omega arith, tt))))))))))))

abbrev pub extension_numbers : List ℕ
extension_numbers = 0 ∷ 13 ∷ []

pub extension-quiet : (img tab : List ℕ) (n code : ℕ) → Quiet img tab 0 (block_at n) extension_numbers (extension tab n code)
unfolding extension extension_in extensions member ThreeBytes
extension-quiet img tab n code =
    on_table-all Q tab n (extension_in tab (block_at n) code)
    (pick_all Q (idle (activity_in tab (block_at n))) _ _
    (pick_all Q (eqb (byte_at tab (block_at n + extension_field)) 0) _ _
    (pick-cases Q (ltb code 12) _ _
    (λ e. quiet-done img tab 0 (block_at n) extension_numbers _ refl
    (good-put H extension_field 3 _ (three (get_or extensions code []) (each_at ThreeBytes extensions code [] extensions-three (ltb-true code 12 e))) (omega arith), tt))
    (λ e. nothing))
    nothing)
    nothing)
    (quiet-nothing img tab 0 (block_at n) extension_numbers 13 refl)
  where
    H : Type 0
    H = Given img tab 0

    three : (vs : List ℕ) → ThreeBytes vs → Run H 3 vs
    three vs h = record { long = h.0; small = λ g. small-each vs h.1 }

    Q : Effect → Type 0
    Q e = Quiet img tab 0 (block_at n) extension_numbers e

    nothing : Q (effect 0 0 [] [])
    nothing = quiet-nothing img tab 0 (block_at n) extension_numbers 0 refl
