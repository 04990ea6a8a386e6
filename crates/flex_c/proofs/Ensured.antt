-- The same of what a host calls: the contract of each function that is exported asks nothing, and what a caller learns is the promise, whole.
use Rattle.flex.proofs.Ensured.{Ensures}
use Rattle.flex.specs.Promised.{PresetPromise, ExtensionPromise, CallPromise, CensusPromise, TextPromise, FormatPromise, RepairPromise}
use Rattle.flex_c.proofs.flex_preset.Kinds as preset
use Rattle.flex_c.proofs.flex_preset.Reads as preset_reads
use Rattle.flex_c.proofs.flex_extension.Kinds as extension
use Rattle.flex_c.proofs.flex_extension.Reads as extension_reads
use Rattle.flex_c.proofs.flex_call.Kinds as call
use Rattle.flex_c.proofs.flex_call.Reads as call_reads
use Rattle.flex_c.proofs.flex_census.Kinds as census
use Rattle.flex_c.proofs.flex_census.Reads as census_reads
use Rattle.flex_c.proofs.flex_error_text.Kinds as text
use Rattle.flex_c.proofs.flex_error_text.Reads as text_reads
use Rattle.flex_c.proofs.flex_format.Kinds as format
use Rattle.flex_c.proofs.flex_format.Reads as format_reads
use Rattle.flex_c.proofs.flex_repair.Kinds as repair
use Rattle.flex_c.proofs.flex_repair.Reads as repair_reads

pub preset-ensured : Ensures 1 preset.ps preset.r preset_reads.Asked preset_reads.Learnt
    (λ κs a r s. PresetPromise a.0.now a.1.0 a.1.1.0 a.1.1.1.0 r s.0.now)
preset-ensured = record { asks = λ κs a. tt; gives = λ κs a r s h. h }

pub extension-ensured : Ensures 1 extension.ps extension.r extension_reads.Asked extension_reads.Learnt
    (λ κs a r s. ExtensionPromise a.0.now a.1.0 a.1.1.0 r s.0.now)
extension-ensured = record { asks = λ κs a. tt; gives = λ κs a r s h. h }

pub call-ensured : Ensures 2 call.ps call.r call_reads.Asked call_reads.Learnt
    (λ κs a r s. CallPromise a.0.now a.1.0.now a.1.1.0 a.1.1.1.0 r s.0.now s.1.0.now)
call-ensured = record { asks = λ κs a. tt; gives = λ κs a r s h. h }

pub census-ensured : Ensures 3 census.ps census.r census_reads.Asked census_reads.Learnt
    (λ κs a r s. CensusPromise a.0.now a.1.0.now a.1.1.0.now r s.1.0.now s.1.1.0.now)
census-ensured = record { asks = λ κs a. tt; gives = λ κs a r s h. h }

pub text-ensured : Ensures 1 text.ps text.r text_reads.Asked text_reads.Learnt (λ κs a r s. TextPromise a.0.now a.1.0 r s.0.now)
text-ensured = record { asks = λ κs a. tt; gives = λ κs a r s h. h }

pub format-ensured : Ensures 2 format.ps format.r format_reads.Asked format_reads.Learnt
    (λ κs a r s. FormatPromise a.0.now a.1.0 a.1.1.0 a.1.1.1.0.now a.1.1.1.1.0 a.1.1.1.1.1.0 a.1.1.1.1.1.1.0 a.1.1.1.1.1.1.1.0 r s.0.now)
format-ensured = record { asks = λ κs a. tt; gives = λ κs a r s h. h }

pub repair-ensured : Ensures 2 repair.ps repair.r repair_reads.Asked repair_reads.Learnt
    (λ κs a r s. RepairPromise a.0.now a.1.0.now r s.0.now)
repair-ensured = record { asks = λ κs a. tt; gives = λ κs a r s h. h }
