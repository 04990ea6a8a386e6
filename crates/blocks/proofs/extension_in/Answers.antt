use Rattle.blocks.proofs.Laws.{extension-busy, extension-there, extension-no-code, extension-set}
use Rattle.blocks.proofs.extension_in.Goals.{else-is_idle-via-then-is_idle+else-get-eq0, else-is_idle-via-else-is_idle}
use Rattle.blocks.proofs.extension_in.Goals as goal

pub returns-in-Some : goal.returns-in-Some
returns-in-Some c = search extension-set

pub returns-in_default : goal.returns-in_default
returns-in_default c = search extension-no-code

pub returns-else-is_idle : goal.returns-else-is_idle
returns-else-is_idle c =
    elim c.else-is_idle.branch [
      | else-is_idle-via-then-is_idle+else-get-eq0 w ↦ search extension-there
      | else-is_idle-via-else-is_idle w ↦ search extension-busy
    ]
