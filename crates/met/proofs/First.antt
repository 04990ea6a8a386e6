-- DEMAND 1 of our service: any image, any table, any numbers.
use Rattle.std.specs.Prelude.{◌≡◌, refl, ◌≢◌, Bool, true, false, List, [], ◌∷◌, ℕ, ◌+◌, ◌-◌, ◌*◌, ◌≤◌, ◌<◌, length, eqb}
use Rattle.std.proofs.Common.{ap, ◌∙◌, arith, get_or-set_same, ne_eqb}
use Rattle.rules.specs.Bytes.{byte_at, over, one}
use Rattle.rules.specs.Stores.{put, stored, puts}
use Rattle.rules.specs.Image.{shape_right}
use Rattle.rules.specs.Outcome.{Outcome, refuse, done, unless, Effect, answer, given, on_image, on_block, settled}
use Rattle.rules.specs.Block.{block_at, function_in, activity_in, drive_in}
use Rattle.rules.specs.Call.{served, fits, misfit, checked, asked, call}
use Rattle.laws.specs.Bytes.{over-one}
use Rattle.laws.specs.Small.{Small}
use Rattle.laws.specs.Stores.{length-puts, puts-append}
use Rattle.laws.specs.Effects.{lengths-kept, on_table-all, call-right, call-wrong, call-refused}
use Rattle.laws.proofs.Effects.{call-lawful}
use Rattle.demands.specs.Service.{flex, leaves}
use Rattle.demands.specs.Demands.{Lent, first_refusal, names, InWords, Demand1}
use Rattle.met.specs.Bounds.{touches, untouched, Tame}
use Rattle.met.proofs.Bounds.{tame-settled}
use Rattle.met.specs.Tames.{asked-tame}
use Rattle.met.specs.Blanks.{formatted}
use Rattle.met.proofs.Mends.{repaired}

-- ---- what is due before all else

-- o is answered as d is, where d is refused
abbrev Alike : Outcome → Outcome → Type 0
Alike o d = answer (settled d) ≢ 0 → answer (settled o) ≡ answer (settled d)

unless-alike : (ok : Bool) (e : ℕ) (o d : Outcome) → Alike o d → Alike (unless ok e o) (unless ok e d)
unless-alike true e o d a = a
unless-alike false e o d a = λ h. refl

checked-alike : (img tab : List ℕ) (f : ℕ) (o d : Outcome) → Alike o d → Alike (checked img tab f o) (checked img tab f d)
unfolding checked
checked-alike img tab f o d a =
    unless-alike (shape_right img) 16 _ _
    (unless-alike (served (function_in tab f)) 1 _ _
    (unless-alike (eqb (drive_in tab f) 0) 16 _ _
    (unless-alike (fits (function_in tab f) (activity_in tab f)) (misfit (function_in tab f) (activity_in tab f)) o d a)))

early : (img tab : List ℕ) (n b : ℕ) → Lent tab n → first_refusal img tab (320 * n) ≢ 0 → answer (call img tab n b) ≡ first_refusal img tab (320 * n)
unfolding asked
early img tab n b l h =
    ap answer (call-right img tab n b l.table l.block) ∙ checked-alike img tab (320 * n) _ (done 0 [] []) (λ k. absurd (k refl)) h

-- ---- byte 1 of the block

over-at : (m : List ℕ) (at v : ℕ) → at < length m → byte_at (over m at (one v)) at ≡ v
over-at m at v h = ap (λ (l : List ℕ). byte_at l at) (over-one m at v) ∙ get_or-set_same m at v 0 h

settled-error : (o : Outcome) (tab : List ℕ) (f : ℕ) → f + 1 < length tab → byte_at (puts tab f (on_block (settled o))) (f + 1) ≡ answer (settled o)
settled-error (refuse e) tab f h = over-at tab (f + 1) e h
settled-error (done c ss ps) tab f h =
    ap (λ (l : List ℕ). byte_at l (f + 1)) (puts-append ps (put 1 (one 0) ∷ []) tab f)
    ∙ over-at (puts tab f ps) (f + 1) 0 (omega (arith, length-puts ps tab f))

error : (img tab : List ℕ) (n b : ℕ) → Lent tab n → byte_at (puts tab (320 * n) (on_block (call img tab n b))) (320 * n + 1) ≡ answer (call img tab n b)
error img tab n b l = rw (call-right img tab n b l.table l.block) (settled-error (asked img tab (block_at n) b) tab (320 * n) (omega (arith, l)))

-- ---- the rest of the table; what only looks

call-tame : (img tab : List ℕ) (n b : ℕ)
    → Tame tab (function_in tab (320 * n)) (activity_in tab (320 * n)) (given (call img tab n b)) (on_image (call img tab n b)) (on_block (call img tab n b))
unfolding call
call-tame img tab n b =
    on_table-all (λ (e : Effect). Tame tab code act (given e) (on_image e) (on_block e)) tab n (settled (asked img tab (block_at n) b))
    (tame-settled tab code act (asked img tab (block_at n) b) (asked-tame img tab (320 * n) b))
    (record { byte = λ h. refl; still = λ h. refl; block = λ s. tt })
  where
    code : ℕ
    code = function_in tab (320 * n)

    act : ℕ
    act = activity_in tab (320 * n)

-- a byte of the table at a place where the block does not touch it
stays : (img tab : List ℕ) (n b at : ℕ) → Small tab
    → (320 * n ≤ at → at < 320 * n + 320 → touches (function_in tab (320 * n)) (activity_in tab (320 * n)) (at - 320 * n) ≡ false)
    → byte_at (puts tab (320 * n) (on_block (call img tab n b))) at ≡ byte_at tab at
stays img tab n b at s h =
    untouched (function_in tab (320 * n)) (activity_in tab (320 * n)) (on_block (call img tab n b)) tab (320 * n) at h ((call-tame img tab n b).block s)

not-touched : (code act f i : ℕ) → i ≢ 1 → names code act i ≡ false → touches code act (f + i - f) ≡ false
unfolding touches
not-touched code act f i n h = let e : f + i - f ≡ i = omega arith in rw (e, ne_eqb i 1 n) h

in_words : InWords flex
in_words = record {
  format_stated = λ img w. (formatted img w).answers;
  format_refused = λ img w h. (formatted img w).kept h;
  repair_stated = λ img tab. (repaired img tab).answers;
  repair_refused = λ img tab h. (repaired img tab).kept h;
  none = λ img tab n b h. ap (leaves img tab n) (call-wrong img tab n b (λ t k. h (record { table = t; block = k })));
  stated = λ img tab n b. (call-lawful img tab n b).answers;
  exact = λ img tab n b. (refl, refl);
  early = early;
  refused = λ img tab n b l h. ap (leaves img tab n) (call-refused img tab n b l.table l.block h);
  lengths = λ img tab n b. lengths-kept img tab (320 * n) (call img tab n b);
  error = error;
  silent = λ img tab n b h. (call-tame img tab n b).byte h;
  others = λ img tab n b p s h. stays img tab n b p s (λ k l. absurd (h k l));
  unnamed = λ img tab n b i s l k h. stays img tab n b (320 * n + i) s (λ u v. not-touched _ _ (320 * n) i k h);
  looking = λ img tab n b h. ap (stored img) ((call-tame img tab n b).still h);
}

pub demand1 : Demand1 flex
demand1 = record {
  does = λ img tab n b. refl;
  preset = λ tab n i v. refl;
  extension = λ tab n c. refl;
  text = λ m e. refl;
  census = λ img xs ys. refl;
  format = λ img w. refl;
  repair = λ img tab. refl;
  words = in_words;
}
