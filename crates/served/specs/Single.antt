-- The promises can be kept, and in one way only: entries by the rules keep them, and any others that do are the same to a host.
use Rattle.std.specs.Prelude.{◌≡◌, refl, List, ℕ, ◌<◌}
use Rattle.std.proofs.Common.{ap, ap₂, ◌∙◌}
use Rattle.rules.specs.Stores.{stored, puts}
use Rattle.rules.specs.Outcome.{answer, given, on_image, on_block, Told, told}
use Rattle.rules.specs.Block.{block_at, preset, extension}
use Rattle.rules.specs.Call.{call}
use Rattle.rules.specs.Census.{Survey, survey}
use Rattle.rules.specs.Text.{error_text}
use Rattle.rules.specs.Format.{format}
use Rattle.rules.specs.Repair.{repair}
use Rattle.rules.specs.Host.{packed, host_census}
use Rattle.flex.specs.Promises.{flex-preset-single, flex-extension-single, flex-call-single, flex-census-single, flex-error-text-single, flex-format-single, flex-repair-single}
use Rattle.demands.specs.Service.{Wanted}
use Rattle.served.specs.Entries.{limit, Held, Askable, Entries, Kept}

-- ---- by the rules

abbrev surveyed : Survey → ℕ × List ℕ × List ℕ
surveyed (survey e us ws) = (e, us, ws)

abbrev texted : Told → ℕ × List ℕ
texted (told e t) = (e, t)

abbrev pub by_rules : Entries
by_rules = record {
  flex_preset = λ tab n i v. (answer (preset tab n i v), puts tab (block_at n) (on_block (preset tab n i v)));
  flex_extension = λ tab n c. (answer (extension tab n c), puts tab (block_at n) (on_block (extension tab n c)));
  flex_call = λ img tab n b. (
    packed (answer (call img tab n b)) (given (call img tab n b)),
    stored img (on_image (call img tab n b)),
    puts tab (block_at n) (on_block (call img tab n b)),
  );
  flex_census = λ img xs ys. surveyed (host_census img xs ys);
  flex_error_text = λ m e. texted (error_text m e);
  flex_format = λ img w. texted (format img w.last w.per w.label w.volume w.month w.day w.year);
  flex_repair = λ img tab. texted (repair img tab);
}

survey-is : (s : Survey) → survey (surveyed s).0 (surveyed s).1 (surveyed s).2 ≡ s
survey-is (survey e us ws) = refl

told_is : (s : Told) → told (texted s).0 (texted s).1 ≡ s
told_is (told e t) = refl

pub kept-by-rules : Kept by_rules
kept-by-rules = record {
  preset = λ tab n i v t a b c. record { answers = refl; tables = refl };
  extension = λ tab n c t a b. record { answers = refl; tables = refl };
  call = λ img tab n b i t a c. record { answers = refl; images = refl; tables = refl };
  census = λ img xs ys i a b. survey-is (host_census img xs ys);
  text = λ m e t a. told_is (error_text m e);
  format = λ img w i a. told_is (format img w.last w.per w.label w.volume w.month w.day w.year);
  repair = λ img tab i t. told_is (repair img tab);
}

-- ---- in one way only: the number and the bytes of every entry

pub record SameEntries (h h' : Entries) : Type 0 where
  pub preset : (tab : List ℕ) (n i v : ℕ) → Held tab → n < limit → i < limit → v < 256 → h.flex_preset tab n i v ≡ h'.flex_preset tab n i v
  pub extension : (tab : List ℕ) (n c : ℕ) → Held tab → n < limit → c < limit → h.flex_extension tab n c ≡ h'.flex_extension tab n c
  pub call : (img tab : List ℕ) (n b : ℕ) → Held img → Held tab → n < limit → b < 256 → h.flex_call img tab n b ≡ h'.flex_call img tab n b
  pub census : (img xs ys : List ℕ) → Held img → Held xs → Held ys → h.flex_census img xs ys ≡ h'.flex_census img xs ys
  pub text : (m : List ℕ) (e : ℕ) → Held m → e < 256 → h.flex_error_text m e ≡ h'.flex_error_text m e
  pub format : (img : List ℕ) (w : Wanted) → Held img → Askable w → h.flex_format img w ≡ h'.flex_format img w
  pub repair : (img tab : List ℕ) → Held img → Held tab → h.flex_repair img tab ≡ h'.flex_repair img tab

pair : (o o' : ℕ × List ℕ) → (o.0 ≡ o'.0) × (o.1 ≡ o'.1) → o ≡ o'
pair o o' e = ap₂ (λ (r : ℕ) (m : List ℕ). (r, m)) e.0 e.1

triple : (o o' : ℕ × List ℕ × List ℕ) → (o.0 ≡ o'.0) × (o.1 ≡ o'.1) × (o.2 ≡ o'.2) → o ≡ o'
triple o o' e = ap₂ (λ (r : ℕ) (m : List ℕ). of r m o.2) e.0 e.1 ∙ ap (of o'.0 o'.1) e.2
  where
    of : ℕ → List ℕ → List ℕ → ℕ × List ℕ × List ℕ
    of r m m' = (r, m, m')

pub kept-single : (h h' : Entries) → Kept h → Kept h' → SameEntries h h'
kept-single h h' k k' = record {
  preset = λ tab n i v t a b c. pair _ _ (flex-preset-single tab n i v (k.preset tab n i v t a b c) (k'.preset tab n i v t a b c));
  extension = λ tab n c t a b. pair _ _ (flex-extension-single tab n c (k.extension tab n c t a b) (k'.extension tab n c t a b));
  call = λ img tab n b i t a c. triple _ _ (flex-call-single img tab n b (k.call img tab n b i t a c) (k'.call img tab n b i t a c));
  census = λ img xs ys i a b. triple _ _ (flex-census-single img xs ys (k.census img xs ys i a b) (k'.census img xs ys i a b));
  text = λ m e t a. pair _ _ (flex-error-text-single m e (k.text m e t a) (k'.text m e t a));
  format = λ img w i a. pair _ _ (flex-format-single img w.last w.per w.label w.volume w.month w.day w.year (k.format img w i a) (k'.format img w i a));
  repair = λ img tab i t. pair _ _ (flex-repair-single img tab (k.repair img tab i t) (k'.repair img tab i t));
}
