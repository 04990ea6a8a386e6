-- From the promises of the exported entries to the service that the demands speak of. Entries is the statement; Served is the theorem, each promise by
-- itself here and all seven in proofs/; Codes (proofs/) says the same of the contracts of the code, Runs what follows for lists of calls. Words and
-- Numbers have what is needed of the census's bytes.
pub mod Entries
pub mod Words
pub mod Numbers
pub mod Served
pub mod Runs
pub mod Single
