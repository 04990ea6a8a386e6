use Rattle.names.proofs.Laws.{byte-letter, byte-digit, byte-sign, byte-other}
use Rattle.names.proofs.is_name_byte.Goals as goal

pub returns-then-is_letter : goal.returns-then-is_letter
returns-then-is_letter c = search byte-letter

pub returns-then-is_digit : goal.returns-then-is_digit
returns-then-is_digit c = search byte-digit

pub returns-in-45 : goal.returns-in-45
returns-in-45 c = search byte-sign

pub returns-in_default : goal.returns-in_default
returns-in_default c = search byte-other
