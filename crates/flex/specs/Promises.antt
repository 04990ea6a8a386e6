-- No second outcome fits the promise of an exported entry: answers, byte, image, table and outputs are equal, each.
use Rattle.std.specs.Prelude.{◌≡◌, List, ℕ}
use Rattle.std.proofs.Common.{sym, ◌∙◌}
use Rattle.rules.specs.Text.{error_text}
use Rattle.rules.specs.Format.{format}
use Rattle.rules.specs.Repair.{repair}
use Rattle.rules.specs.Host.{host_census}
use Rattle.laws.specs.Single.{single-told}
use Rattle.census_laws.specs.Accepted.{single-survey}
use Rattle.flex.specs.Promised.{PresetPromise, ExtensionPromise, CallPromise, CensusPromise, TextPromise, FormatPromise, RepairPromise}

pub flex-preset-single : (tab : List ℕ) (n i v : ℕ) {r r' : ℕ} {t t' : List ℕ} → PresetPromise tab n i v r t → PresetPromise tab n i v r' t'
    → (r ≡ r') × (t ≡ t')
flex-preset-single tab n i v p q = (p.answers ∙ sym q.answers, p.tables ∙ sym q.tables)

pub flex-extension-single : (tab : List ℕ) (n c : ℕ) {r r' : ℕ} {t t' : List ℕ} → ExtensionPromise tab n c r t → ExtensionPromise tab n c r' t'
    → (r ≡ r') × (t ≡ t')
flex-extension-single tab n c p q = (p.answers ∙ sym q.answers, p.tables ∙ sym q.tables)

pub flex-call-single : (img tab : List ℕ) (n b : ℕ) {r r' : ℕ} {i i' t t' : List ℕ} → CallPromise img tab n b r i t → CallPromise img tab n b r' i' t'
    → (r ≡ r') × (i ≡ i') × (t ≡ t')
flex-call-single img tab n b p q = (p.answers ∙ sym q.answers, p.images ∙ sym q.images, p.tables ∙ sym q.tables)

pub flex-census-single : (img xs ys : List ℕ) {r r' : ℕ} {us us' ws ws' : List ℕ} → CensusPromise img xs ys r us ws → CensusPromise img xs ys r' us' ws'
    → (r ≡ r') × (us ≡ us') × (ws ≡ ws')
flex-census-single img xs ys p q = single-survey (host_census img xs ys) _ _ _ _ _ _ p q

pub flex-error-text-single : (m : List ℕ) (e : ℕ) {r r' : ℕ} {t t' : List ℕ} → TextPromise m e r t → TextPromise m e r' t' → (r ≡ r') × (t ≡ t')
flex-error-text-single m e p q = single-told (error_text m e) _ _ _ _ p q

pub flex-format-single : (img : List ℕ) (M S : ℕ) (label : List ℕ) (volume month day year : ℕ) {r r' : ℕ} {i i' : List ℕ}
    → FormatPromise img M S label volume month day year r i → FormatPromise img M S label volume month day year r' i' → (r ≡ r') × (i ≡ i')
flex-format-single img M S label volume month day year p q = single-told (format img M S label volume month day year) _ _ _ _ p q

pub flex-repair-single : (img tab : List ℕ) {r r' : ℕ} {i i' : List ℕ} → RepairPromise img tab r i → RepairPromise img tab r' i' → (r ≡ r') × (i ≡ i')
flex-repair-single img tab p q = single-told (repair img tab) _ _ _ _ p q
