-- The demands are not empty: a run of 30 calls, 16 presets and a default extension on the start with three files, its answers, and what each
-- clause of `Sound` finds there.
use Rattle.std.specs.Prelude.{◌≡◌, refl, Bool, true, false, List, [], ◌∷◌, ◌++◌, ℕ, ◌*◌, ◌/◌, ◌<◌, length, get_or, replicate, ltb}
use Rattle.std.proofs.Common.{ap, ◌∙◌, arith}
use Rattle.rules.specs.Bytes.{pick, byte_at, part, within}
use Rattle.rules.specs.Directory.{live, member, last_sector}
use Rattle.rules.specs.Image.{is_sector}
use Rattle.rules.specs.Block.{idle}
use Rattle.rules.specs.All.{rules}
use Rattle.laws.specs.Tests.{never}
use Rattle.demands.specs.Ledger.{Call, setting, extending, asking, Ledger, Block, closed, listing, reading, writing, file, block, asks, activity, entry_of}
use Rattle.demands.specs.Service.{flex, Machine, Entry, answers, gave, next, run, log}
use Rattle.demands.specs.History.{Scene, history, scenes, raw, Plain, hits, changing, Unnamed, ahead}
use Rattle.demands.specs.Demands.{Start, last_track_of, per_track_of, begun, told, past, Asks, Idle, in_slot, in_link, sectors_in, slots_in, place_in, Begins, Sound}
use Rattle.met.proofs.Third.{demand3}
use Rattle.refuted.specs.All.{demands}
use Rattle.refuted.specs.Pair.{below, small-below, pair, pair-start, full, paired}

-- block 0 makes C.TXT and sends two bytes, 5 makes D.TXT and sends one, which takes the last free sector; 7 would delete A.TXT, which is
-- protected, then makes F.TXT, and gets no sector for its byte; 6 would read C.TXT while it is written; 0 would change its name; 5 closes
unfoldable pub written : List Call
written =
    asking 0 0 ∷ asking 0 70 ∷ asking 0 71 ∷ asking 5 0 ∷ asking 5 80 ∷ asking 7 0 ∷ setting 7 4 70 ∷ setting 7 0 2 ∷ asking 7 0 ∷ asking 7 90 ∷ asking 6 0
    ∷ setting 0 4 71 ∷ setting 5 0 4 ∷ asking 5 0 ∷ []

-- block 2 renames B.DAT to E.DAT, again (it exists), deletes it, again (no legal name); 1 would read B.DAT; 5 deletes D.TXT
unfoldable pub removed : List Call
removed =
    setting 2 0 13 ∷ asking 2 0 ∷ asking 2 0 ∷ setting 2 0 12 ∷ asking 2 0 ∷ asking 2 0 ∷ asking 1 0 ∷ setting 5 0 12 ∷ asking 5 0 ∷ []

-- block 1 opens A.TXT, reads two bytes, rewinds, reads one; 3 lists two slots; 4 fetches a sector; 6 would read G.TXT, which is
-- protected, would close, asks for function 99, for drive 1; 9 is no block
unfoldable pub looked : List Call
looked =
    setting 1 4 65 ∷ setting 1 12 0 ∷ extending 1 1 ∷ asking 1 0 ∷ asking 1 0 ∷ asking 1 0 ∷ setting 1 0 5 ∷ asking 1 0 ∷ asking 1 0
    ∷ asking 3 0 ∷ setting 3 0 7 ∷ asking 3 0 ∷ asking 3 0 ∷ asking 4 0
    ∷ setting 6 4 71 ∷ asking 6 0
    ∷ setting 6 0 4 ∷ asking 6 0 ∷ setting 6 0 99 ∷ asking 6 0 ∷ setting 6 3 1 ∷ setting 6 0 0 ∷ asking 6 0 ∷ asking 9 0 ∷ []

unfoldable pub trial : List Call
trial = written ++ removed ++ looked

unfoldable pub tried : Unit {0}
unfolding paired written removed looked trial
tried = tt

-- answer and byte of each call
abbrev pub outcomes : List Entry → List (ℕ × ℕ)
outcomes [] = []
outcomes (e ∷ es) = (e.ans, e.back) ∷ outcomes es

-- of these calls, in the same lines
abbrev pub the_outcomes : List (ℕ × ℕ)
the_outcomes =
    (0, 0) ∷ (0, 0) ∷ (0, 0) ∷ (0, 0) ∷ (0, 0) ∷ (11, 0) ∷ (0, 0) ∷ (0, 0) ∷ (0, 0) ∷ (7, 0) ∷ (2, 0)
    ∷ (18, 0) ∷ (0, 0) ∷ (0, 0)
    ∷ (0, 0) ∷ (0, 0) ∷ (3, 0) ∷ (0, 0) ∷ (0, 0) ∷ (21, 0) ∷ (4, 0) ∷ (0, 0) ∷ (0, 0)
    ∷ (0, 0) ∷ (0, 0) ∷ (0, 0) ∷ (0, 0) ∷ (0, 10) ∷ (0, 11) ∷ (0, 0) ∷ (0, 0) ∷ (0, 10)
    ∷ (0, 0) ∷ (0, 0) ∷ (0, 0) ∷ (0, 0) ∷ (0, 0)
    ∷ (0, 0) ∷ (17, 0)
    ∷ (0, 0) ∷ (13, 0) ∷ (0, 0) ∷ (1, 0) ∷ (0, 0) ∷ (0, 0) ∷ (16, 0) ∷ (13, 0) ∷ []

-- ---- what is computed, in one go

-- no call deletes or renames the file of this name
unfoldable pub unhit : List ℕ → List Scene → Bool
unhit nm [] = true
unhit nm (c ∷ cs) = pick (hits 13 nm c) false (pick (hits 12 nm c) false (unhit nm cs))

-- no raw write was due
unfoldable pub tame : List Scene → Bool
tame [] = true
tame (c ∷ cs) = pick (raw c) false (tame cs)

-- of a ledger: the eight blocks; code and drive of 1, 3 and 4; the position of 4, how many slots, the byte that is next for 1
record Facts : Type 0 where
  pub blocks : List Block
  pub codes : List ℕ
  pub drives : List ℕ
  pub numbers : List ℕ

abbrev facts_of : Ledger → Facts
facts_of a = record {
  blocks = a.blocks;
  codes = (asks a 1 0).code ∷ (asks a 3 0).code ∷ (asks a 4 0).code ∷ [];
  drives = (asks a 1 0).drive ∷ (asks a 3 0).drive ∷ (asks a 4 0).drive ∷ [];
  numbers = (asks a 4 0).position ∷ length a.slots ∷ get_or (ahead a (block a 1)) 0 0 ∷ [];
}

abbrev the_facts : Facts
the_facts = record {
  blocks = writing 1 (70 ∷ 71 ∷ []) ∷ reading 0 1 5 ∷ closed ∷ listing 2 ∷ closed ∷ closed ∷ closed ∷ writing 3 [] ∷ [];
  codes = 0 ∷ 7 ∷ 9 ∷ [];
  drives = 0 ∷ 0 ∷ 0 ∷ [];
  numbers = 261 ∷ 10 ∷ 11 ∷ [];
}

-- of a log from the start x; nm is the name that is looked for
record Summary : Type 0 where
  pub outs : List (ℕ × ℕ)
  pub facts : Facts
  pub spares : Bool
  pub plain : Bool

summary : Machine → List ℕ → List Entry → Summary
summary x nm es = record {
  outs = outcomes es;
  facts = facts_of (history (last_track_of x) (per_track_of x) (begun x) es);
  spares = unhit nm (scenes (last_track_of x) (per_track_of x) (begun x) es);
  plain = tame (scenes (last_track_of x) (per_track_of x) (begun x) es);
}

abbrev a_txt : List ℕ
a_txt = part pair.img (place_in pair 0) 11

computed : summary pair a_txt (log flex pair trial) ≡ record { outs = the_outcomes; facts = the_facts; spares = true; plain = true }
unfolding rules demands tried unhit tame summary
computed = refl

-- ---- ITS ANSWERS

pub trial-answers : outcomes (log flex pair trial) ≡ the_outcomes
unfolding summary
trial-answers = ap (λ (s : Summary). s.outs) computed

-- ---- WHAT STANDS AT ITS END: every clause of `Sound` that asks for something finds it

-- block 1 reads A.TXT, of which byte 11 is next; 3 lists, two slots shown; 4 asks for a sector; 0 has an unfinished one
pub record Busy (a : Ledger) : Type 0 where
  pub reads : Asks a 1 0 × (activity (block a 1) ≡ 1) × (get_or (ahead a (block a 1)) 0 0 ≡ 11)
  pub lists : Asks a 3 7 × (block a 3 ≡ listing 2) × (2 < length a.slots)
  pub fetches : Asks a 4 9 × Idle a 4 × ((asks a 4 0).position ≡ 261)
  pub writes : block a 0 ≡ writing 1 (70 ∷ 71 ∷ [])

busy : (a : Ledger) → facts_of a ≡ the_facts → Busy a
unfolding rules
busy a e =
    let codes : (i : ℕ) → get_or (facts_of a).codes i 0 ≡ get_or the_facts.codes i 0 = λ i. ap (λ (f : Facts). get_or f.codes i 0) e in
    let drives : (i : ℕ) → get_or (facts_of a).drives i 0 ≡ get_or the_facts.drives i 0 = λ i. ap (λ (f : Facts). get_or f.drives i 0) e in
    let numbers : (i : ℕ) → get_or (facts_of a).numbers i 0 ≡ get_or the_facts.numbers i 0 = λ i. ap (λ (f : Facts). get_or f.numbers i 0) e in
    let blocks : (i : ℕ) → block a i ≡ get_or the_facts.blocks i closed = λ i. ap (λ (f : Facts). get_or f.blocks i closed) e in
    record {
      reads = (record { block = omega arith; function = codes 0; drive = drives 0 }, ap activity (blocks 1), numbers 2);
      lists = (record { block = omega arith; function = codes 1; drive = drives 1 }, blocks 3, rw (numbers 1) (omega arith));
      fetches = (record { block = omega arith; function = codes 2; drive = drives 2 }, ap (λ (b : Block). idle (activity b)) (blocks 4), numbers 0);
      writes = blocks 0;
    }

pub trial-busy : Busy (told flex pair trial)
unfolding summary
trial-busy = busy (told flex pair trial) (ap (λ (s : Summary). s.facts) computed)

not-hit : (b c : Bool) → pick b false c ≡ true → (b ≡ false) × (c ≡ true)
not-hit true c h = absurd (never h)
not-hit false c h = (refl, h)

-- no raw write was due
pub plainly : (cs : List Scene) → tame cs ≡ true → Plain cs
unfolding tame
plainly [] h = tt
plainly (c ∷ cs) h = let p = not-hit (raw c) (tame cs) h in (p.0, plainly cs p.1)

pub trial-plain : Plain (past flex pair trial)
unfolding summary
trial-plain = plainly (past flex pair trial) (ap (λ (s : Summary). s.plain) computed)

-- A.TXT is spared: live at the start, and no call names it
pub unnamed : (nm : List ℕ) (cs : List Scene) → unhit nm cs ≡ true → Unnamed changing nm cs
unfolding unhit
unnamed nm [] h = tt
unnamed nm (c ∷ cs) h =
    let p = not-hit (hits 13 nm c) (pick (hits 12 nm c) false (unhit nm cs)) h in
    let q = not-hit (hits 12 nm c) (unhit nm cs) p.1 in
    ((p.0, (q.0, tt)), unnamed nm cs q.1)

pub trial-unnamed : Unnamed changing a_txt (past flex pair trial)
unfolding summary
trial-unnamed = unnamed a_txt (past flex pair trial) (ap (λ (s : Summary). s.spares) computed)

pub trial-live : (0 < length (slots_in pair pair.img)) × (live pair.img (place_in pair 0) ≡ true)
unfolding rules demands paired
trial-live = (omega arith, refl)

-- byte 0 of the boot sector is named by nobody; 1,5 is a sector
quiet-there : (pick (ltb 0 (256 * per_track_of pair)) true (member (0 / 256) (sectors_in pair pair.img)) ≡ true) × (in_slot 0 (slots_in pair pair.img) ≡ false)
    × (in_link (last_sector pair.img (last_track_of pair) (per_track_of pair)) 0 ≡ false) × (is_sector (last_track_of pair) (per_track_of pair) 261 ≡ true)
unfolding rules demands paired
quiet-there = (refl, refl, refl, refl)

-- of the free sectors 6 and 9 the second call takes 6, and 9 stays free
pub trial-rests : (member 9 (told flex pair (asking 0 0 ∷ [])).free ≡ true) × (member 9 (told flex pair (asking 0 0 ∷ asking 0 70 ∷ [])).free ≡ true)
unfolding rules demands paired
trial-rests = (refl, refl)

trial-early : Plain (past flex pair (asking 0 0 ∷ [])) × Plain (past flex pair (asking 0 0 ∷ asking 0 70 ∷ []))
unfolding rules demands paired
trial-early = ((refl, tt), (refl, (refl, tt)))

-- so the clauses, which ours meets, say this of the end, and of the second call
abbrev pub end : Machine
end = run flex pair trial

-- every clause, of this run
pub trial-sound : Sound flex pair trial
trial-sound = demand3 pair pair-start trial trial-plain

-- what those that ask for something say, with what they ask for handed to them
pub clauses : (gave flex end (asking 1 0) ≡ 11)
    × (part (next flex end (asking 3 0)).tab 964 24 ≡ entry_of (file (told flex pair trial) 2))
    × (answers flex end (asking 4 0) ≡ 0)
    × (byte_at end.img 0 ≡ byte_at pair.img 0)
    × (part end.img (place_in pair 0) 24 ≡ part pair.img (place_in pair 0) 24)
unfolding within
clauses =
    let s = trial-sound in
    let b = trial-busy in (
      (s.readers 1 0 b.reads.0 b.reads.1).1 ∙ b.reads.2,
      (s.lists 3 0 2 b.lists.0 b.lists.1 b.lists.2).1,
      (s.fetches 4 0 b.fetches.0 b.fetches.1 (ap (is_sector (last_track_of pair) (per_track_of pair)) b.fetches.2 ∙ quiet-there.3)).0,
      s.stays 0 quiet-there.0 refl quiet-there.1 quiet-there.2,
      (s.spared 0 trial-live.0 trial-live.1 trial-unnamed).slot,
    )

pub clauses-early : part (run flex pair (asking 0 0 ∷ asking 0 70 ∷ [])).img 2306 254 ≡ part (run flex pair (asking 0 0 ∷ [])).img 2306 254
clauses-early = (demand3 pair pair-start (asking 0 0 ∷ []) trial-early.0).rests (asking 0 70) trial-early.1 9 trial-rests.0 trial-rests.1

-- ---- A START WHOSE DIRECTORY HAS GROWN: what C.TXT, made where no slot was left, with a byte, and closed, leaves; all blocks closed again

unfoldable pub crowd : List Call
crowd = asking 0 0 ∷ asking 0 7 ∷ setting 0 0 4 ∷ asking 0 0 ∷ []

unfoldable pub grown : Machine
grown = record { img = (run flex full crowd).img; tab = pair.tab }

pub grown-start : Start grown
unfolding rules demands paired crowd grown below
grown-start = record { accepted = refl; bytes = small-below (run flex full crowd).img refl; table = pair-start.table; closed = pair-start.closed }

-- its directory, and C.TXT's slot, the eleventh, in the second sector
pub grown-there : (sectors_in grown grown.img ≡ 4 ∷ 6 ∷ []) × (length (slots_in grown grown.img) ≡ 20) × (place_in grown 10 ≡ 1552) × (live grown.img 1552 ≡ true)
unfolding rules demands paired crowd grown
grown-there = (refl, refl, refl, refl)

-- block 3 lists ten slots; block 5 makes D.TXT in the twelfth, behind C.TXT's
unfoldable pub onward : List Call
onward =
    asking 3 0 ∷ setting 3 0 7 ∷ asking 3 0 ∷ asking 3 0 ∷ asking 3 0 ∷ asking 3 0 ∷ asking 3 0 ∷ asking 3 0 ∷ asking 3 0 ∷ asking 3 0 ∷ asking 3 0 ∷ asking 3 0
    ∷ asking 5 0 ∷ []

c_txt : List ℕ
c_txt = part grown.img 1552 11

-- what is computed of it, in one go
abbrev grown_facts : Facts
grown_facts = record {
  blocks = closed ∷ closed ∷ closed ∷ listing 10 ∷ closed ∷ writing 11 [] ∷ closed ∷ closed ∷ [];
  codes = 1 ∷ 7 ∷ 9 ∷ [];
  drives = 0 ∷ 0 ∷ 0 ∷ [];
  numbers = 261 ∷ 20 ∷ 0 ∷ [];
}

grown-computed : summary grown c_txt (log flex grown onward) ≡ record { outs = replicate 13 (0, 0); facts = grown_facts; spares = true; plain = true }
unfolding rules demands paired crowd grown onward unhit tame summary c_txt
grown-computed = refl

-- block 3 has been shown ten of the slots, and asks for one more
grown-busy : (a : Ledger) → facts_of a ≡ grown_facts → Asks a 3 7 × (block a 3 ≡ listing 10) × (10 < length a.slots)
grown-busy a e = (
  record { block = omega arith; function = ap (λ (f : Facts). get_or f.codes 1 0) e; drive = ap (λ (f : Facts). get_or f.drives 1 0) e },
  ap (λ (f : Facts). get_or f.blocks 3 closed) e,
  rw (ap (λ (f : Facts). get_or f.numbers 1 0) e) (omega arith),
)

grown-unnamed : Unnamed changing c_txt (past flex grown onward)
unfolding summary
grown-unnamed = unnamed c_txt (past flex grown onward) (ap (λ (s : Summary). s.spares) grown-computed)

grown-plain : Plain (past flex grown onward)
unfolding summary
grown-plain = plainly (past flex grown onward) (ap (λ (s : Summary). s.plain) grown-computed)

-- so the clauses say of it: the eleventh slot is shown next, and it is C.TXT's; C.TXT keeps its 24 bytes; byte 2 of the directory's data sector stays;
-- the slots of the start come first
pub grown-clauses : (part (next flex (run flex grown onward) (asking 3 0)).tab 964 24 ≡ entry_of (file (told flex grown onward) 10))
    × (part (run flex grown onward).img 1552 24 ≡ part grown.img 1552 24)
    × (byte_at (run flex grown onward).img 1538 ≡ byte_at grown.img 1538)
    × Begins (slots_in grown grown.img) (slots_in grown (run flex grown onward).img)
unfolding rules demands paired crowd grown c_txt summary
grown-clauses =
    let s = demand3 grown grown-start onward grown-plain in
    let b = grown-busy (told flex grown onward) (ap (λ (s : Summary). s.facts) grown-computed) in (
      (s.lists 3 0 10 b.0 b.1 b.2).1,
      (s.spared 10 (omega arith) refl grown-unnamed).slot,
      s.stays 1538 refl refl refl refl,
      s.stood,
    )
