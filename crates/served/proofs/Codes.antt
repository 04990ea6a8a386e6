-- FROM THE CODE: an exported entry's contract asks nothing of a caller, and what a caller learns by it is the reply of the demands' service. Here a
use Rattle.std.specs.Prelude.{◌≡◌, List, ℕ}
use Rattle.rules.specs.Outcome.{told}
use Rattle.rules.specs.Host.{as_bytes}
use Rattle.laws.specs.Facts.{Given}
use Rattle.flex.proofs.Ensured.{Ensures, preset-ensured, extension-ensured, call-ensured, census-ensured, text-ensured, format-ensured, repair-ensured}
use Rattle.flex.proofs.flex_preset.Kinds as preset
use Rattle.flex.proofs.flex_preset.Reads as preset_reads
use Rattle.flex.proofs.flex_extension.Kinds as extension
use Rattle.flex.proofs.flex_extension.Reads as extension_reads
use Rattle.flex.proofs.flex_call.Kinds as call
use Rattle.flex.proofs.flex_call.Reads as call_reads
use Rattle.flex.proofs.flex_census.Kinds as census
use Rattle.flex.proofs.flex_census.Reads as census_reads
use Rattle.flex.proofs.flex_error_text.Kinds as text
use Rattle.flex.proofs.flex_error_text.Reads as text_reads
use Rattle.flex.proofs.flex_format.Kinds as format
use Rattle.flex.proofs.flex_format.Reads as format_reads
use Rattle.flex.proofs.flex_repair.Kinds as repair
use Rattle.flex.proofs.flex_repair.Reads as repair_reads
use Rattle.demands.specs.Service.{Wanted, flex}
use Rattle.served.specs.Entries.{Output, apart, read_back}
use Rattle.served.specs.Served.{preset-served, extension-served, call-served}
use Rattle.served.proofs.Served.{census-served}

pub preset-code : Ensures 1 preset.ps preset.r preset_reads.Asked preset_reads.Learnt
    (λ κs a r s. told r s.0.now ≡ flex.preset a.0.now a.1.0 a.1.1.0 a.1.1.1.0)
preset-code = record { asks = preset-ensured.asks; gives = λ κs a r s h. preset-served _ _ _ _ _ _ (preset-ensured.gives κs a r s h) }

pub extension-code : Ensures 1 extension.ps extension.r extension_reads.Asked extension_reads.Learnt
    (λ κs a r s. told r s.0.now ≡ flex.extension a.0.now a.1.0 a.1.1.0)
extension-code = record { asks = extension-ensured.asks; gives = λ κs a r s h. extension-served _ _ _ _ _ (extension-ensured.gives κs a r s h) }

-- where image, table and the byte sent are bytes
pub call-code : Ensures 2 call.ps call.r call_reads.Asked call_reads.Learnt
    (λ κs a r s. Given a.0.now a.1.0.now a.1.1.1.0
    → apart (r, s.0.now, s.1.0.now) ≡ flex.call a.0.now a.1.0.now a.1.1.0 a.1.1.1.0)
call-code = record { asks = call-ensured.asks; gives = λ κs a r s h g. call-served _ _ _ _ _ _ _ g (call-ensured.gives κs a r s h) }

-- where the outputs hold numbers of two bytes
pub census-code : Ensures 3 census.ps census.r census_reads.Asked census_reads.Learnt
    (λ κs a r s. (xs ys : List ℕ) → Output xs → Output ys → a.1.0.now ≡ as_bytes xs → a.1.1.0.now ≡ as_bytes ys
    → read_back (r, s.1.0.now, s.1.1.0.now) ≡ flex.census a.0.now xs ys)
census-code = record {
  asks = census-ensured.asks;
  gives = λ κs a r s h xs ys p q e d. census-served a.0.now xs ys p q _ _ _ (rw (e, d) at (census-ensured.gives κs a r s h));
}

pub text-code : Ensures 1 text.ps text.r text_reads.Asked text_reads.Learnt (λ κs a r s. told r s.0.now ≡ flex.text a.0.now a.1.0)
text-code = text-ensured

abbrev wanted : ℕ → ℕ → List ℕ → ℕ → ℕ → ℕ → ℕ → Wanted
wanted last per label volume month day year = record { last = last; per = per; label = label; volume = volume; month = month; day = day; year = year }

pub format-code : Ensures 2 format.ps format.r format_reads.Asked format_reads.Learnt
    (λ κs a r s. told r s.0.now ≡ flex.format a.0.now (wanted a.1.0 a.1.1.0 a.1.1.1.0.now a.1.1.1.1.0 a.1.1.1.1.1.0 a.1.1.1.1.1.1.0 a.1.1.1.1.1.1.1.0))
format-code = format-ensured

pub repair-code : Ensures 2 repair.ps repair.r repair_reads.Asked repair_reads.Learnt (λ κs a r s. told r s.0.now ≡ flex.repair a.0.now a.1.0.now)
repair-code = repair-ensured
