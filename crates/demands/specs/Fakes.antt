-- The fakes: services that break the user's words, and so must not meet the demands. Each is ours with one thing changed, but for `refusing`
-- and `idling`, which do nothing at all; in quotes, words of 01 or 02 that it breaks. At the end other orders of the stores of ours. That they fail is
-- proved in crate `refuted`.
use Rattle.std.specs.Prelude.{Bool, true, false, not, List, [], ◌∷◌, ◌++◌, ℕ, zero, suc, ◌+◌, ◌-◌, ◌*◌, ◌%◌, length, take, eqb, ltb, Result, Ok, Err}
use Rattle.rules.specs.Bytes.{pick, ◌and◌, byte_at, word_at, part, over, one, two, zeros}
use Rattle.rules.specs.Image.{shape_right, last_track, per_track, index, adr, first_free, last_free, free_count}
use Rattle.rules.specs.Directory.{never_used, named, first, live, size_at, directory, last_sector, slots, find, vacancy, attributes_at}
use Rattle.rules.specs.Stores.{Store, store, stored}
use Rattle.rules.specs.Repair.{keeps, all_of, others, mend_files, links, mend_free, kept_in, free_in}
use Rattle.rules.specs.Outcome.{Out, out, Told as Reply, told as replied, says_of, left_of}
use Rattle.rules.specs.Block.{function_in, activity_in, name_in}
use Rattle.rules.specs.Files.{read_protected}
use Rattle.rules.specs.Census.{Survey, survey, directory_owner, files_right}
use Rattle.rules.specs.declared.NoSlot.{NoSlot}
use Rattle.rules.specs.declared.NoSlot.TheVariants.{Missing, Broken}
use Rattle.chains.specs.Once.{rising}
use Rattle.demands.specs.Service.{Wanted, Service, flex, img_of}
use Rattle.demands.specs.Demands.{survey_answer, data_sectors}
use Rattle.demands.specs.Cuts.{Order, in_order}

-- ---- ours, changed

-- a service by its entries, in the order of `Service`
abbrev pub service : (List ℕ → ℕ → ℕ → ℕ → Reply) → (List ℕ → ℕ → ℕ → Reply) → (List ℕ → List ℕ → ℕ → ℕ → Out) → (List ℕ → List ℕ → List ℕ → Survey) → (List ℕ → ℕ → Reply)
    → (List ℕ → Wanted → Reply) → (List ℕ → List ℕ → Reply) → Service
service p e c s t f r = record { preset = p; extension = e; call = c; census = s; text = t; format = f; repair = r }

-- ours, but for one entry
abbrev pub with_preset : (List ℕ → ℕ → ℕ → ℕ → Reply) → Service
with_preset p = service p flex.extension flex.call flex.census flex.text flex.format flex.repair

abbrev pub with_extension : (List ℕ → ℕ → ℕ → Reply) → Service
with_extension e = service flex.preset e flex.call flex.census flex.text flex.format flex.repair

abbrev pub with_call : (List ℕ → List ℕ → ℕ → ℕ → Out) → Service
with_call c = service flex.preset flex.extension c flex.census flex.text flex.format flex.repair

abbrev pub with_census : (List ℕ → List ℕ → List ℕ → Survey) → Service
with_census s = service flex.preset flex.extension flex.call s flex.text flex.format flex.repair

abbrev pub with_text : (List ℕ → ℕ → Reply) → Service
with_text t = service flex.preset flex.extension flex.call flex.census t flex.format flex.repair

abbrev pub with_format : (List ℕ → Wanted → Reply) → Service
with_format f = service flex.preset flex.extension flex.call flex.census flex.text f flex.repair

abbrev pub with_repair : (List ℕ → List ℕ → Reply) → Service
with_repair r = service flex.preset flex.extension flex.call flex.census flex.text flex.format r

-- a census of which the report is changed
abbrev pub reporting : (Survey → Survey) → Service
reporting f = with_census (λ img xs ys. f (flex.census img xs ys))

-- block n asks for this function; it asks for function 0, and its activity is 1 (it reads) or 2 (it writes)
abbrev pub asks_for : ℕ → List ℕ → ℕ → Bool
asks_for code tab n = eqb (function_in tab (320 * n)) code

abbrev pub transfers : ℕ → List ℕ → ℕ → Bool
transfers act tab n = pick (asks_for 0 tab n) (eqb (activity_in tab (320 * n)) act) false

-- what a refusal with this number leaves
abbrev pub refusal : ℕ → List ℕ → List ℕ → ℕ → Out
refusal e img tab n = out e 0 img (over tab (320 * n + 1) (one e))

-- where the test holds and the call is accepted, the image is changed further, by f; the table, by g of the block's number
abbrev pub spoilt : Bool → (List ℕ → List ℕ) → (List ℕ → List ℕ) → Out → Out
spoilt t f g (out a b img tab) = pick (pick (eqb a 0) t false) (out a b (f img) (g tab)) (out a b img tab)

abbrev pub with_image : (List ℕ → ℕ → Bool) → (List ℕ → List ℕ) → Service
with_image test f = with_call (λ img tab n b. spoilt (test tab n) f (λ m. m) (flex.call img tab n b))

abbrev pub with_table : (List ℕ → ℕ → Bool) → (ℕ → List ℕ → List ℕ) → Service
with_table test g = with_call (λ img tab n b. spoilt (test tab n) (λ m. m) (g n) (flex.call img tab n b))

-- where ours gives this answer and the test holds, something else comes instead
abbrev pub instead : ℕ → Bool → Out → Out → Out
instead e t other (out a b img tab) = pick (pick (eqb a e) t false) other (out a b img tab)

-- ---- 01, "Fakes to try"

-- everything is refused. "Preset writes one byte: offset 0 always"
abbrev pub refusing : Service
refusing =
    service (λ tab n i v. replied 18 tab) (λ tab n c. replied 13 tab) (λ img tab n b. refusal 18 img tab n) (λ img xs ys. survey 41 xs ys) (λ m e. replied 40 m)
    (λ img w. replied 41 img) (λ img tab. replied 13 img)

-- every call is refused, and no more. "the first deleted or never-used slot in order gets name and date"
abbrev pub deaf : Service
deaf = with_call (λ img tab n b. refusal 18 img tab n)

-- nothing is done, and 0 answered. "11 the slot's attributes have .. write protect"
abbrev pub idling : Service
idling =
    service (λ tab n i v. replied 0 tab) (λ tab n c. replied 0 tab) (λ img tab n b. out 0 0 img tab) flex.census flex.text flex.format flex.repair

-- one fixed byte on every read. "Returns the buffer byte at the index"
abbrev pub stamped : Bool → Out → Out
stamped t (out a b img tab) = out a (pick t 42 b) img tab

abbrev pub stuck : Service
stuck = with_call (λ img tab n b. stamped (transfers 1 tab n) (flex.call img tab n b))

-- an idle write answering 0. "index 0 takes a sector .. Then the byte is stored"
abbrev pub nodding : Service
nodding = with_call (λ img tab n b. pick (transfers 2 tab n) (out 0 0 img tab) (flex.call img tab n b))

-- an open that does the whole file's allocation and writes that only nod. "gets name and date, all else 0"
abbrev pub then_writes : ℕ → Out → Out
then_writes n (out a b img tab) = pick (eqb a 0) (flex.call img tab n 0) (out a b img tab)

abbrev pub eager : Service
eager = with_call (λ img tab n b. pick (asks_for 2 tab n) (then_writes n (flex.call img tab n b)) (nodding.call img tab n b))

-- a census with an invented count: the first sector is left out of both lists. "first output lists sector numbers"
abbrev pub shorter : List ℕ → List ℕ
shorter [] = []
shorter (x ∷ xs) = xs

abbrev pub fewer : Survey → Survey
fewer (survey a xs ys) = pick (eqb a 0) (survey a (shorter xs) (shorter ys)) (survey a xs ys)

abbrev pub counting : Service
counting = reporting fewer

-- a census with an invented list: all sectors in rising order, all free. "the listed sector's owner"
abbrev pub all_free : Survey → Survey
all_free (survey a xs ys) = pick (eqb a 0) (survey a (rising 0 (length xs)) (zeros (length ys))) (survey a xs ys)

abbrev pub inventing : Service
inventing = reporting all_free

-- ---- more

-- after every accepted call it presets function 12 into block 2, which may wait to open a file. "Bytes not named here stay"
abbrev pub meddling : Service
meddling = with_table (λ tab n. true) (λ n tab. left_of (flex.preset tab 2 0 12))

-- an open for read deletes the file. "built from its bytes at the start and the accepted calls alone"
abbrev pub deleting : Service
deleting = with_call (λ img tab n b. flex.call img (pick (asks_for 1 tab n) (over tab (320 * n) (one 12)) tab) n b)

-- a default extension stores function 12. "bytes 12-14 take the code's entry"
abbrev pub misextending : Service
misextending = with_extension (λ tab n c. replied 0 (left_of (flex.preset tab n 0 12)))

-- where the shape is wrong, image and table are wiped and 0 is answered. "16 image shape wrong"
abbrev pub wiping : Service
wiping = with_call (λ img tab n b.
    pick (shape_right img) (flex.call img tab n b)
    (pick (eqb (length tab) 2560) (pick (ltb n 8) (out 0 0 [] (zeros 2560)) (out 13 0 img tab)) (out 13 0 img tab)))

-- next slot shows a name that begins with Z. "Slot to 4-27"
abbrev pub mislisting : Service
mislisting = with_table (asks_for 7) (λ n tab. over tab (320 * n + 4) (one 90))

-- a refusal stores 99. "stores only its number in FCB byte 1"
abbrev pub misnoted : ℕ → Out → Out
misnoted n (out a b img tab) = out a b img (pick (eqb a 0) tab (over tab (320 * n + 1) (one 99)))

abbrev pub misnoting : Service
misnoting = with_call (λ img tab n b. misnoted n (flex.call img tab n b))

-- an open for write scrambles the record number of sector 8, whosever it is. "Bytes not named here stay"
abbrev pub scrambling : Service
scrambling = with_image (asks_for 2) (λ img. over img 2051 (one 7))

-- a byte sent is refused when the count is 0, although the last sector is unfinished. "index 0 takes a sector, checked so: .. free count 0 (7)"
abbrev pub stingy : Service
stingy = with_call (λ img tab n b.
    pick (pick (transfers 2 tab n) (eqb (free_count img) 0) false) (refusal 7 img tab n) (flex.call img tab n b))

-- a byte sent swaps the dates of the slots at 1064 and 1088. "gets name and date"
abbrev pub swapped : List ℕ → List ℕ
swapped img = over (over img 1085 (part img 1109 3)) 1109 (part img 1085 3)

abbrev pub swapping : Service
swapping = with_image (transfers 2) swapped

-- a byte sent changes the boot sector. "Bytes not named here stay"
abbrev pub booting : Service
booting = with_image (transfers 2) (λ img. over img 0 (one 99))

-- a delete counts one free sector too few. "the size is added to the count"
abbrev pub miscounting : Service
miscounting = with_image (asks_for 12) (λ img. over img 545 (two (free_count img - 1)))

-- a byte read leaves a wrong position. "Position .. follow"
abbrev pub misplacing : Service
misplacing = with_table (transfers 1) (λ n tab. over tab (320 * n + 31) (one 9))

-- where the directory's sector is linked to itself, so that the census gives 42: a byte read leaves the index, and comes again for ever. "index + 1"
abbrev pub self_linked : List ℕ → Bool
self_linked img = eqb (word_at img 1024) 5

abbrev pub stalling : Service
stalling = with_call (λ img tab n b.
    spoilt (pick (self_linked img) (transfers 1 tab n) false) (λ m. m) (λ m. over m (320 * n + 34) (one (byte_at tab (320 * n + 34)))) (flex.call img tab n b))

-- where first free is a sector of track 0, so that the census gives 44: a rename clears another slot. "Bytes not named here stay"
abbrev pub purging : Service
purging = with_call (λ img tab n b.
    spoilt (pick (eqb (byte_at img 541) 0) (asks_for 13 tab n) false) (λ m. over m 1040 (zeros 24)) (λ m. m) (flex.call img tab n b))

-- open for read looks only before the first slot that was never used. "The name search is to go to the end"
abbrev pub seen_before : List ℕ → List ℕ → List ℕ → Bool
seen_before img name [] = false
seen_before img name (o ∷ os) = pick (never_used img o) false (pick (named img name o) true (seen_before img name os))

abbrev pub stopping : Service
stopping = with_call (λ img tab n b.
    instead 0 (pick (asks_for 1 tab n) (not (seen_before img (name_in tab (320 * n)) (slots img (last_track img) (per_track img)))) false) (refusal 4 img tab n) (flex.call img tab n b))

-- 4 is answered for 5. "5 directory not right"
abbrev pub softening : Service
softening = with_call (λ img tab n b. instead 5 true (refusal 4 img tab n) (flex.call img tab n b))

-- the attributes of the slot that was found; the image with others there
abbrev pub attributes_of : List ℕ → Result ℕ NoSlot → ℕ
attributes_of img (Ok o) = attributes_at img o
attributes_of img (Err Missing) = 0
attributes_of img (Err Broken) = 0

abbrev pub with_attributes : ℕ → List ℕ → Result ℕ NoSlot → List ℕ
with_attributes v img (Ok o) = over img (o + 11) (one v)
with_attributes v img (Err Missing) = img
with_attributes v img (Err Broken) = img

-- the slot that has the name of block n
abbrev pub slot_of_name : List ℕ → List ℕ → ℕ → Result ℕ NoSlot
slot_of_name img tab n = find img (last_track img) (per_track img) (name_in tab (320 * n))

-- a file of attribute 32 is opened for read as if it had none. "Open for read gives 17 for such a file, after 4 and before 2"
abbrev pub as_on : List ℕ → Out → Out
as_on m (out a b img tab) = out a b m tab

abbrev pub heedless : Service
heedless = with_call (λ img tab n b.
    instead 17 true (as_on img (flex.call (with_attributes 0 img (slot_of_name img tab n)) tab n b)) (flex.call img tab n b))

-- a file of attribute 32 is not deleted either. "12 delete: .. 21, 5, 4, 2 .., 12, 11"
abbrev pub guarding : Service
guarding = with_call (λ img tab n b.
    instead 0 (pick (asks_for 12 tab n) (read_protected (attributes_of img (slot_of_name img tab n))) false) (refusal 17 img tab n) (flex.call img tab n b))

-- a new file gets attribute 32, so that nobody can see whether the bytes were kept. "gets name and date, all else 0"
abbrev pub sealing : Service
sealing = with_call (λ img tab n b. spoilt (asks_for 2 tab n) (λ m. with_attributes 32 m (slot_of_name m tab n)) (λ m. m) (flex.call img tab n b))

-- a format that leaves what the data sectors held: only links, record numbers and track 0 are new. "other bytes not named are zero"
unfoldable pub data_left : List ℕ → List ℕ → ℕ → ℕ → List ℕ
data_left old new k zero = new
data_left old new k (suc n) = over (data_left old new (suc k) n) (256 * k + 4) (part old (256 * k + 4) 252)

abbrev pub reply_with : (List ℕ → List ℕ) → Reply → Reply
reply_with f (replied a m) = replied a (pick (eqb a 0) (f m) m)

abbrev pub hasty : Service
hasty = with_format (λ img w. reply_with (λ new. data_left img new w.per (w.last * w.per)) (flex.format img w))

-- a format that counts one sector too few. "The census must accept every blank diskette"
abbrev pub hoarding : Service
hoarding = with_format (λ img w. reply_with (λ new. over new 545 (two (w.last * w.per - 1))) (flex.format img w))

-- a format that clears the image before it looks at the lengths. "then a wrong image or label length 40, both without a change"
abbrev pub rash : Service
rash = with_format (λ img w. pick (eqb (says_of (flex.format img w)) 40) (replied 40 (zeros (length img))) (flex.format img w))

-- a format whose free chain does not rise: 1,2 comes before 1,1. The census accepts it. "with the numbers in rising order"
abbrev pub interleaving : Service
interleaving = with_format (λ img w.
    reply_with (λ new. over (over (over new 541 (1 ∷ 2 ∷ [])) (256 * w.per) (1 ∷ 3 ∷ [])) (256 * (w.per + 1)) (1 ∷ 1 ∷ [])) (flex.format img w))

-- ---- on damaged images. Where the census refuses the image, and the call is accepted, more is changed; where the census accepts they are ours

abbrev pub damaged : List ℕ → Bool
damaged img = not (eqb (survey_answer (flex.census img (zeros (data_sectors img)) (zeros (data_sectors img)))) 0)

abbrev pub harming : (List ℕ → ℕ → Bool) → (List ℕ → List ℕ → ℕ → List ℕ → List ℕ) → Service
harming test f = with_call (λ img tab n b. spoilt (pick (damaged img) (test tab n) false) (f img tab n) (λ m. m) (flex.call img tab n b))

-- a byte sent takes a sector and leaves the free chain as it was, so that the next file gets the sector too. "First free moves to that sector's link, count falls
-- by 1"
abbrev pub doubling : Service
doubling = harming (transfers 2) (λ img tab n m. over m 541 (part img 541 6))

-- a rename empties the file. "New name to slot and FCB"
abbrev pub emptied : List ℕ → Result ℕ NoSlot → List ℕ
emptied m (Ok o) = over m (o + 13) (zeros 6)
emptied m (Err Missing) = m
emptied m (Err Broken) = m

abbrev pub gutting : Service
gutting = harming (asks_for 13) (λ img tab n m. emptied m (slot_of_name img tab n))

-- a delete clears the sector that last free names, whosever it is, all but its link. "size 0 only marks"
abbrev pub scouring : Service
scouring = harming (asks_for 12) (λ img tab n m. over m (256 * index (per_track img) (last_free img) + 2) (zeros 254))

-- ---- more, on any bytes

-- function 8 clears the image and answers 0, whatever the block does: a raw write, after which nothing more would be asked of it. "functions 8 (activity
-- 16; 5)"
abbrev pub posing : Service
posing = with_call (λ img tab n b. pick (asks_for 8 tab n) (out 0 0 (zeros (length img)) tab) (flex.call img tab n b))

-- a census that answers 45 leaves its outputs as they were lent. "42-46 fill both outputs with 65,535"
abbrev pub relent : List ℕ → List ℕ → Survey → Survey
relent xs ys (survey a us ws) = pick (eqb a 45) (survey a xs ys) (survey a us ws)

abbrev pub leaving : Service
leaving = with_census (λ img xs ys. relent xs ys (flex.census img xs ys))

-- byte 36 of the block counts its accepted calls. "Bytes not named here stay"
abbrev pub remembering : Service
remembering = with_table (λ tab n. true) (λ n tab. over tab (320 * n + 36) (one ((byte_at tab (320 * n + 36) + 1) % 256)))

-- where 10 is due for a byte sent, 0 is answered and nothing done. "first free not a data sector or size 65,535 (10)"
abbrev pub wrapping : Service
wrapping = with_call (λ img tab n b. instead 10 (transfers 2 tab n) (out 0 0 img (over tab (320 * n + 1) (one 0))) (flex.call img tab n b))

-- the error text has a 0 behind it. "three digits in the first 15 bytes; the rest stays"
abbrev pub overlong : Service
overlong = with_text (λ m e. reply_with (λ t. over t 15 (one 0)) (flex.text m e))

-- a format leaves the volume number out. "label, number and date at 16-26, 27-28 and 35-37"
abbrev pub numberless : Service
numberless = with_format (λ img w. reply_with (λ m. over m 539 (zeros 2)) (flex.format img w))

-- a close sets the function to 0. "Bytes not named here stay"
abbrev pub tidying : Service
tidying = with_table (asks_for 4) (λ n tab. over tab (320 * n) (one 0))

-- function 9 gives track 0 to nobody. "any existing sector at 30-31 to the buffer, else 9"
abbrev pub hiding : Service
hiding = with_call (λ img tab n b. instead 0 (pick (asks_for 9 tab n) (eqb (byte_at tab (320 * n + 30)) 0) false) (refusal 9 img tab n) (flex.call img tab n b))

-- a table of 2,561 bytes is taken. "13 table length not 2,560"
abbrev pub widening : Service
widening = with_call (λ img tab n b. pick (eqb (length tab) 2561) (out 0 0 img tab) (flex.call img tab n b))

-- ---- 02, "The directory grows"

-- 02, "When no slot is left": open for write takes a sector for the directory
abbrev pub is_missing : Result ℕ NoSlot → Bool
is_missing (Ok o) = false
is_missing (Err Missing) = true
is_missing (Err Broken) = false

-- a call by which the directory grows
abbrev pub grows_by : List ℕ → List ℕ → ℕ → Bool
grows_by img tab n = asks_for 2 tab n and is_missing (vacancy img (last_track img) (per_track img))

-- a full directory is refused, as it once was. "By the manual the directory expands itself and 6 never occurs"
abbrev pub balking : Service
balking = with_call (λ img tab n b. instead 0 (grows_by img tab n) (refusal 6 img tab n) (flex.call img tab n b))

-- what the new sector held before its slots is left there. "clears it"
abbrev pub smudged : List ℕ → ℕ → List ℕ → List ℕ
smudged old k new = over new (256 * k + 2) (part old (256 * k + 2) 14)

abbrev pub smudging : Service
smudging = with_call (λ img tab n b. spoilt (grows_by img tab n) (smudged img (index (per_track img) (first_free img))) (λ m. m) (flex.call img tab n b))

-- the new sector is not linked. "and links it behind the last directory sector"
abbrev pub unlinked : List ℕ → ℕ → List ℕ → List ℕ
unlinked old k new = over new (256 * k) (part old (256 * k) 2)

abbrev pub detaching : Service
detaching = with_call (λ img tab n b. spoilt (grows_by img tab n) (unlinked img (last_sector img (last_track img) (per_track img))) (λ m. m) (flex.call img tab n b))

-- the second sector of the directory is free again after a delete, before all others; the census accepts what is left of the start that it is tried
-- on. "They are never given back"
abbrev pub given_back : List ℕ → List ℕ
given_back img =
    pick (eqb (word_at img 1024) 0) img
    (over (over (over (over img 1024 (zeros 2)) (256 * index (per_track img) (word_at img 1024)) (two (first_free img))) 541 (part img 1024 2)) 545 (two (free_count img + 1)))

abbrev pub returning : Service
returning = with_image (asks_for 12) given_back

-- a census that lists the directory's sectors as free. "with owner 65,534"
abbrev pub unmarked : List ℕ → List ℕ
unmarked [] = []
unmarked (y ∷ ys) = pick (eqb y directory_owner) 0 y ∷ unmarked ys

abbrev pub masked : Survey → Survey
masked (survey a xs ys) = pick (eqb a 0) (survey a xs (unmarked ys)) (survey a xs ys)

abbrev pub masking : Service
masking = reporting masked

-- ---- 02, "Raw writing"

-- function 10 answers as ours and stores nothing. "functions .. 10 (activity 0 or 16; 10 if no such sector)"
abbrev pub shamming : Service
shamming = with_call (λ img tab n b. pick (asks_for 10 tab n) (as_on img (flex.call img tab n b)) (flex.call img tab n b))

-- function 8 stores into the first slot of the sector, whichever the place names. "functions 8 (activity 16; 5)"
abbrev pub straying : Service
straying = with_call (λ img tab n b.
    pick (asks_for 8 tab n) (as_on (img_of (flex.call img (over tab (320 * n + 49) (one 16)) n b)) (flex.call img tab n b)) (flex.call img tab n b))

-- a preset refuses the buffer's bytes, as it once did. "preset taking 15-24 and 64-319 too"
abbrev pub narrow : Service
narrow = with_preset (λ tab n i v. pick (ltb i 64) (flex.preset tab n i v) (replied 18 tab))

-- ---- 02, "Repair"

-- as ours answers; where it is 0, another image, by the one that was lent and the one that ours leaves
abbrev pub with_mended : (List ℕ → List ℕ → List ℕ) → Service
with_mended f = with_repair (λ img tab. reply_with (f img) (flex.repair img tab))

-- every file is emptied and every sector free; the census accepts that. "a file sharing nothing and rightly chained keeps every byte"
abbrev pub sizeless : List ℕ → List ℕ → List ℕ
sizeless img [] = img
sizeless img (o ∷ os) = over (sizeless img os) (o + 17) (zeros 2)

abbrev pub emptying : Service
emptying = with_mended (λ img m. left_of (flex.repair (sizeless img (slots img (last_track img) (per_track img))) (zeros 2560)))

-- nothing is changed. "The census then accepts"
abbrev pub pretending : Service
pretending = with_mended (λ img m. img)

-- the last file keeps first, so that a shared sector is the later one's; the census accepts that. "In slot order"
abbrev pub backwards : List ℕ → List ℕ
backwards [] = []
backwards (o ∷ os) = backwards os ++ (o ∷ [])

-- each of these slots gets these sectors, linked to one another; the others are free
abbrev pub linked : ℕ → List (List ℕ) → List Store
linked S [] = []
linked S (l ∷ ls) = links S l ++ linked S ls

abbrev pub mended_by : List ℕ → ℕ → ℕ → List ℕ → List (List ℕ) → List ℕ
mended_by img M S os ls = stored img (mend_files img S os ls ++ (linked S ls ++ mend_free S (others (all_of ls ++ directory img M S) (M * S) S)))

abbrev pub favoured : List ℕ → ℕ → ℕ → List ℕ → List ℕ
favoured img M S os = mended_by img M S os (keeps img M S (directory img M S) os)

abbrev pub favouring : Service
favouring = with_mended (λ img m. favoured img (last_track img) (per_track img) (backwards (slots img (last_track img) (per_track img))))

-- the first file that is cut gets what no file keeps, as much as it states; the census accepts that. "each live file keeps the longest start of its chain"
abbrev pub adopted : List ℕ → List ℕ → List ℕ → List (List ℕ) → List (List ℕ)
adopted img lost [] ls = ls
adopted img lost (o ∷ os) [] = []
adopted img lost (o ∷ os) (l ∷ ls) =
    pick (pick (live img o) (ltb (length l) (size_at img o)) false) ((l ++ take (size_at img o - length l) lost) ∷ ls) (l ∷ adopted img lost os ls)

abbrev pub adopted_in : List ℕ → ℕ → ℕ → List ℕ
adopted_in img M S = mended_by img M S (slots img M S) (adopted img (free_in img M S) (slots img M S) (kept_in img M S))

abbrev pub adopting : Service
adopting = with_mended (λ img m. adopted_in img (last_track img) (per_track img))

-- the free chain is turned round each time; the census accepts that. "all other data sectors form the free chain in rising order"
abbrev pub turned : List ℕ → ℕ → List ℕ → List ℕ → List ℕ
turned img S f m = stored m (mend_free S (pick (eqb (first_free img) (adr S (first f 0))) (backwards f) f))

abbrev pub turning : Service
turning = with_mended (λ img m. turned img (per_track img) (free_in img (last_track img) (per_track img)) m)

-- what no file keeps is cleared. "no other byte changes"
abbrev pub scrubbed : List ℕ → List ℕ → List ℕ
scrubbed m [] = m
scrubbed m (k ∷ ks) = over (scrubbed m ks) (256 * k + 2) (zeros 254)

abbrev pub scrubbing : Service
scrubbing = with_mended (λ img m. scrubbed m (free_in img (last_track img) (per_track img)))

-- byte 23 of a random file that is cut stays. "a cut random file's byte 23 becomes 0"
unfoldable pub maps_left : List ℕ → List ℕ → List ℕ → List ℕ
maps_left old m [] = m
maps_left old m (o ∷ os) = pick (live old o) (over (maps_left old m os) (o + 19) (one (byte_at old (o + 19)))) (maps_left old m os)

abbrev pub mapping : Service
mapping = with_mended (λ img m. maps_left img m (slots img (last_track img) (per_track img)))

-- open blocks are not looked at. "with all FCBs closed (13 for the table, then 2)"
abbrev pub barging : Service
barging = with_repair (λ img tab. flex.repair img (zeros 2560))

-- where a file's chain is wrong, for which the census gives 45, it refuses. "it needs shape, directory and names right and gives the census number if not"
abbrev pub shirking : Service
shirking = with_repair (λ img tab.
    pick (files_right img (last_track img) (per_track img) (slots img (last_track img) (per_track img))) (flex.repair img tab) (replied 42 img))

-- ---- a power cut: the stores of ours in another order, with stores that are taken back, or in smaller pieces. On the starts that they are tried on
-- all of them together give our image

-- where the test holds
abbrev pub reordered : Bool → (List Store → List Store) → List Store → List Store
reordered t f ss = pick t (f ss) ss

-- the third goes before the second; the fourth before the third; the last before all others
abbrev pub third_early : List Store → List Store
third_early [] = []
third_early (s ∷ []) = s ∷ []
third_early (s ∷ t ∷ []) = s ∷ t ∷ []
third_early (s ∷ t ∷ u ∷ ss) = s ∷ u ∷ t ∷ ss

abbrev pub fourth_early : List Store → List Store
fourth_early [] = []
fourth_early (s ∷ ss) = s ∷ third_early ss

abbrev pub behind_first : Store → List Store → List Store
behind_first s [] = s ∷ []
behind_first s (t ∷ ts) = t ∷ s ∷ ts

abbrev pub last_first : List Store → List Store
last_first [] = []
last_first (s ∷ ss) = behind_first s (last_first ss)

-- where the directory grows, the new sector is linked before it is cleared: the record, the link, the clearing, the slot
abbrev pub linking : Order
linking img tab n b = reordered (grows_by img tab n) third_early (in_order img tab n b)

-- where a file takes a sector, its slot has the sector before the sector is there: the slot, the record, the new sector, the link
abbrev pub slot_first : Order
slot_first img tab n b = reordered (transfers 2 tab n) last_first (in_order img tab n b)

-- a delete marks the slot before the file's sectors are free: the mark, the link, the record. Costs no file, but is not undone
abbrev pub mark_first : Order
mark_first img tab n b = reordered (asks_for 12 tab n) last_first (in_order img tab n b)

-- not a fake, for it costs nothing: where the directory grows, the slot is stored before its sector is linked: the record, the clearing, the slot, the link
abbrev pub naming : Order
naming img tab n b = reordered (grows_by img tab n) fourth_early (in_order img tab n b)

-- a rename has another byte in a boot sector for a while
abbrev pub scratching : Order
scratching img tab n b =
    reordered (asks_for 13 tab n) (λ ss. store 0 0 (one (255 - byte_at img 0)) ∷ store 0 0 (one (byte_at img 0)) ∷ ss) (in_order img tab n b)

-- a rename has the first free sector behind the directory for a while, cleared; then the link and the sector are as they were
abbrev pub lingering : Order
lingering img tab n b =
    let k = index (per_track img) (first_free img) in
    let last = last_sector img (last_track img) (per_track img) in
    reordered (asks_for 13 tab n)
    (λ ss. store k 0 (zeros 256) ∷ store last 0 (two (first_free img)) ∷ store last 0 (two 0) ∷ store k 0 (part img (256 * k) 256) ∷ ss)
    (in_order img tab n b)

-- a medium that tears a sector: every byte is a store of its own
abbrev pub in_bytes : ℕ → ℕ → List ℕ → List Store
in_bytes k i [] = []
in_bytes k i (v ∷ vs) = store k i (one v) ∷ in_bytes k (i + 1) vs

abbrev pub torn : List Store → List Store
torn [] = []
torn (store k i vs ∷ ss) = in_bytes k i vs ++ torn ss

abbrev pub tearing : Order
tearing img tab n b = torn (in_order img tab n b)
