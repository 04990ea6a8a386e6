-- A service: its seven entries as functions on lists. Ours, by the rules. Lists of calls, and the log that they leave.
use Rattle.std.specs.Prelude.{List, [], ◌∷◌, ℕ, ◌<◌}
use Rattle.rules.specs.Stores.{stored, puts}
use Rattle.rules.specs.Outcome.{Effect, answer, given, on_image, on_block, Out, out, Told as Reply, told as replied, says_of, left_of}
use Rattle.rules.specs.Block.{block_at, extension as extension_rule, preset as preset_rule}
use Rattle.rules.specs.Call.{call as call_rule}
use Rattle.rules.specs.Census.{Survey, census as census_rule}
use Rattle.rules.specs.Text.{error_text}
use Rattle.rules.specs.Format.{format as format_rule}
use Rattle.rules.specs.Repair.{repair as repair_rule}
use Rattle.demands.specs.Ledger.{Call, setting, extending, asking}

-- what a blank diskette is to be like: last track, sectors per track, label, volume number, date
pub record Wanted : Type 0 where
  pub last : ℕ
  pub per : ℕ
  pub label : List ℕ
  pub volume : ℕ
  pub month : ℕ
  pub day : ℕ
  pub year : ℕ

-- preset (table, block, offset, value), default extension (table, block, code), the call (image, table, block, byte), the census (image, two
-- outputs), the error text (lent bytes, number), format (image, the diskette wanted), repair (image, table)
pub record Service : Type 0 where
  pub preset : List ℕ → ℕ → ℕ → ℕ → Reply
  pub extension : List ℕ → ℕ → ℕ → Reply
  pub call : List ℕ → List ℕ → ℕ → ℕ → Out
  pub census : List ℕ → List ℕ → List ℕ → Survey
  pub text : List ℕ → ℕ → Reply
  pub format : List ℕ → Wanted → Reply
  pub repair : List ℕ → List ℕ → Reply

abbrev pub settled_on : List ℕ → ℕ → Effect → Reply
settled_on tab n e = replied (answer e) (puts tab (block_at n) (on_block e))

abbrev pub leaves : List ℕ → List ℕ → ℕ → Effect → Out
leaves img tab n e = out (answer e) (given e) (stored img (on_image e)) (puts tab (block_at n) (on_block e))

-- OURS: what the entries promise, by the rules
abbrev pub flex : Service
flex = record {
  preset = λ tab n i v. settled_on tab n (preset_rule tab n i v);
  extension = λ tab n c. settled_on tab n (extension_rule tab n c);
  call = λ img tab n b. leaves img tab n (call_rule img tab n b);
  census = λ img xs ys. census_rule img xs ys;
  text = λ m e. error_text m e;
  format = λ img w. format_rule img w.last w.per w.label w.volume w.month w.day w.year;
  repair = λ img tab. repair_rule img tab;
}

-- ---- what a call leaves

abbrev pub ans_of : Out → ℕ
ans_of (out a b img tab) = a

abbrev pub byte_of : Out → ℕ
byte_of (out a b img tab) = b

abbrev pub img_of : Out → List ℕ
img_of (out a b img tab) = img

abbrev pub tab_of : Out → List ℕ
tab_of (out a b img tab) = tab

-- ---- lists of calls

-- image and table
pub record Machine : Type 0 where
  pub img : List ℕ
  pub tab : List ℕ

-- what is preset and sent is a byte: a host can hand over nothing else
abbrev pub SendsByte : Call → Type 0
SendsByte (setting n i v) = v < 256
SendsByte (extending n c) = Unit {0}
SendsByte (asking n b) = b < 256

-- what the log has of a call: the call as it was made, the answer, the byte given back
pub record Entry : Type 0 where
  pub made : Call
  pub ans : ℕ
  pub back : ℕ

-- what a call comes to: the answer, the byte, image and table
unfoldable pub outcome : Service → Machine → Call → Out
outcome σ x (setting n i v) = out (says_of (σ.preset x.tab n i v)) 0 x.img (left_of (σ.preset x.tab n i v))
outcome σ x (extending n c) = out (says_of (σ.extension x.tab n c)) 0 x.img (left_of (σ.extension x.tab n c))
outcome σ x (asking n b) = σ.call x.img x.tab n b

abbrev pub answers : Service → Machine → Call → ℕ
answers σ x c = ans_of (outcome σ x c)

abbrev pub gave : Service → Machine → Call → ℕ
gave σ x c = byte_of (outcome σ x c)

unfoldable pub next : Service → Machine → Call → Machine
next σ x c = record { img = img_of (outcome σ x c); tab = tab_of (outcome σ x c) }

unfoldable pub entry : Service → Machine → Call → Entry
entry σ x c = record { made = c; ans = answers σ x c; back = gave σ x c }

unfoldable pub run : Service → Machine → List Call → Machine
run σ x [] = x
run σ x (c ∷ cs) = run σ (next σ x c) cs

unfoldable pub log : Service → Machine → List Call → List Entry
log σ x [] = []
log σ x (c ∷ cs) = entry σ x c ∷ log σ (next σ x c) cs
