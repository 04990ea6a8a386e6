use Rattle.fms.proofs.Dispatch.{performs, performs-plain, performs-rewind, performs-directory}
use Rattle.fms.proofs.perform_by.Goals as goal

pub returns-in-Transfer : goal.returns-in-Transfer
returns-in-Transfer c = search performs

pub returns-in-OpenRead : goal.returns-in-OpenRead
returns-in-OpenRead c = search performs-plain

pub returns-in-OpenWrite : goal.returns-in-OpenWrite
returns-in-OpenWrite c = search performs-plain

pub returns-in-Close : goal.returns-in-Close
returns-in-Close c = search performs-plain

pub returns-in-Rewind : goal.returns-in-Rewind
returns-in-Rewind c = search performs-rewind

pub returns-in-OpenDirectory : goal.returns-in-OpenDirectory
returns-in-OpenDirectory c = search performs-directory

pub returns-in-NextSlot : goal.returns-in-NextSlot
returns-in-NextSlot c = search performs-plain

pub returns-in-PutSlot : goal.returns-in-PutSlot
returns-in-PutSlot c = search performs-plain

pub returns-in-ReadSector : goal.returns-in-ReadSector
returns-in-ReadSector c = search performs-plain

pub returns-in-WriteSector : goal.returns-in-WriteSector
returns-in-WriteSector c = search performs-plain

pub returns-in-Delete : goal.returns-in-Delete
returns-in-Delete c = search performs-plain

pub returns-in-Rename : goal.returns-in-Rename
returns-in-Rename c = search performs-plain
