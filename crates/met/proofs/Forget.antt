-- What the history shows of files, and every answer and byte that it predicts, knows no sectors: of two ledgers that differ only in which sectors
-- are whose the same log makes two that differ so again, and it shows and predicts the same. So two diskettes with the same files, however their
-- sectors lie, are answered alike by every service that meets demand 3, while no raw write is due.
use Rattle.std.specs.Prelude.{◌≡◌, ◌≢◌, Bool, set, eqb, leb, ltb}
use Rattle.std.proofs.Math.Path.{refl, sym, ap, subst}
use Rattle.std.proofs.Common.{◌∙◌, length-set, le-leb, ltb-true}
use Rattle.std.proofs.Math.Bool.{true, false}
use mathlib.Core.List.{List, [], ◌∷◌, ◌++◌}
use Prim.Native.Nat.{ℕ, zero, suc, ◌+◌, ◌-◌, ◌*◌, ◌/◌, ◌%◌, ◌≤◌, ◌<◌}
use native.Mathlib.Omega.{arith}
use Rattle.std.proofs.Math.Decide.{dec_lt}
use Rattle.std.proofs.Math.ListN.{length, get_or, length-append, get_or-eq_default}
use Rattle.rules.specs.Bytes.{pick, within, word_at, part, over, one, two, six, zeros}
use Rattle.rules.specs.Stores.{Put, put, puts}
use Rattle.rules.specs.Outcome.{Effect, answer, on_block as puts_of}
use Rattle.rules.specs.Image.{is_sector, adr}
use Rattle.rules.specs.Names.{legal}
use Rattle.rules.specs.Directory.{first_slot_of, live, named, vacant, place_of}
use Rattle.rules.specs.Block.{presettable, idle, activity_in, preset_in, extension_in}
use Rattle.rules.specs.Transfer.{take_puts, sent, shut, fresh}
use Rattle.rules.specs.Files.{opened, write_protected, delete_protected, read_protected}
use Rattle.rules.specs.Call.{served, fits, misfit}
use Rattle.laws.specs.Bytes.{length-one, length-six, zeros-at, length_part, length_over, part_same}
use Rattle.laws.specs.Each.{Each, each_append, each_at}
use Rattle.laws.specs.Small.{Small, small-nil, small-part, small-two}
use Rattle.laws.specs.Tests.{pick-cases, within-true}
use Rattle.laws.specs.Addresses.{Shape, Lies, data_is}
use Rattle.chains.specs.Tally.{all-each}
use Rattle.chains.specs.Chain.{set_last, length-pieces}
use Rattle.chains.specs.Data.{InData, sector-data}
use Rattle.demands.specs.Ledger.{Call, setting, extending, asking, block_of, File, no_file, entry_of, Block, closed, listing, reading, writing, Ledger, file, block, fcb, Request, asks, Fate, denied, granted, Sought, nowhere, slot, later, on_sought, seek, file_named, vacant_slot, activity, busy, set_block, set_file, set_free, put_into, with_last, with_new, with_mark, with_name, new_file, unused_slots, add_sector, attributes, loaded, taken, transferred, grown, opened_to_read, opened_to_write, shut_block, rewound, directory_opened, shown_next, slot_put, fetched, deleted, renamed, performed, called, ended, edits, fate, reply, gives, after}
use Rattle.demands.specs.Diskette.{fcbs_from, ledger_of}
use Rattle.demands.specs.Service.{Service, Machine, Entry, answers, gave, next as after_call, entry, run, log}
use Rattle.demands.specs.History.{noted, then, history, scenes, Told, Plain, pending, as_shown, shown_from, shown, content, files_on}
use Rattle.demands.specs.Demands.{Start, last_track_of, per_track_of, begun, past, Demand3}
use Rattle.met.specs.Relation.{Agrees}
use Rattle.met.specs.Sectors.{free-data, secs-data}
use Rattle.met.specs.Unused.{length-unused}
use Rattle.met.proofs.Calls.{extension-length}
use Rattle.met.proofs.Runs.{start-shape, start_fine}

-- ---- ledgers alike

-- byte i of a block is none that calls and presets read: these are 0-14, 25-27, 30-31, 53-63
pub record Unread (i : ℕ) : Type 0 where
  pub low : i ≤ 14 → ⊥
  pub date : 25 ≤ i → i ≤ 27 → ⊥
  pub position : 30 ≤ i → i ≤ 31 → ⊥
  pub rename : 53 ≤ i → i ≤ 63 → ⊥

-- byte i of a block, here and there: the same, where 31 is a byte, so that it leaves the track as it is; of the position, a track or a sector
-- number of two addresses; or never read
pub data LikeByte (M S i x x' : ℕ) : Type 0 where
  same : x ≡ x' → (i ≡ 31 → x < 256) → LikeByte M S i x x'
  track : i ≡ 30 → 1 ≤ x → x ≤ M → 1 ≤ x' → x' ≤ M → LikeByte M S i x x'
  sector : i ≡ 31 → 1 ≤ x → x ≤ S → 1 ≤ x' → x' ≤ S → LikeByte M S i x x'
  unread : Unread i → LikeByte M S i x x'

pub record LikeForm (M S : ℕ) (m m' : List ℕ) : Type 0 where
  pub long : length m ≡ length m'
  pub bytes : (i : ℕ) → LikeByte M S i (get_or m i 0) (get_or m' i 0)

-- a slot: all but its place, its sectors, and its bytes 13-18, which name them
pub record Twin (f f' : File) : Type 0 where
  pub name : f.name ≡ f'.name
  pub mode : f.mode ≡ f'.mode
  pub map : f.map ≡ f'.map
  pub date : f.date ≡ f'.date
  pub recs : f.recs ≡ f'.recs
  pub body : f.body ≡ f'.body

-- and as many sectors, all of them for data
pub record LikeFile (M S : ℕ) (f f' : File) : Type 0 where
  pub twin : Twin f f'
  pub size : length f.secs ≡ length f'.secs
  pub secs : Each (InData M S) f.secs
  pub secs' : Each (InData M S) f'.secs

-- its 24 bytes are those of a slot
pub record Long (f f' : File) : Type 0 where
  pub name : length f.name ≡ 11
  pub mode : length f.mode ≡ 2
  pub ends : length f.ends ≡ 6
  pub ends' : length f'.ends ≡ 6
  pub map : length f.map ≡ 1
  pub date : length f.date ≡ 4

-- LEDGERS ALIKE: they differ only in which sectors are whose, the directory's too, in the image of the start, and in what free sectors hold
pub record Alike (M S : ℕ) (a a' : Ledger) : Type 0 where
  pub free : length a.free ≡ length a'.free
  pub frees : Each (InData M S) a.free
  pub frees' : Each (InData M S) a'.free
  pub count : length a.slots ≡ length a'.slots
  pub files : (s : ℕ) → LikeFile M S (file a s) (file a' s)
  pub long : (s : ℕ) → s < length a.slots → Long (file a s) (file a' s)
  pub blocks : a.blocks ≡ a'.blocks
  pub number : length a.fcbs ≡ length a'.fcbs
  pub fcbs : (n : ℕ) → LikeForm M S (fcb a n) (fcb a' n)

-- ---- lists, place by place

at_set : {A : Type 0} (R : ℕ → A → A → Type 0) (d : A) (xs ys : List A) → length xs ≡ length ys → ((s : ℕ) → R s (get_or xs s d) (get_or ys s d))
    → (t : ℕ) (x y : A) → R t x y → (s : ℕ) → R s (get_or (set xs t x) s d) (get_or (set ys t y) s d)
at_set R d [] [] c h t x y r s = h s
at_set R d [] (w ∷ ys) c h t x y r s = absurd (omega arith)
at_set R d (v ∷ xs) [] c h t x y r s = absurd (omega arith)
at_set R d (v ∷ xs) (w ∷ ys) c h zero x y r zero = r
at_set R d (v ∷ xs) (w ∷ ys) c h zero x y r (suc s) = h (suc s)
at_set R d (v ∷ xs) (w ∷ ys) c h (suc t) x y r zero = h 0
at_set R d (v ∷ xs) (w ∷ ys) c h (suc t) x y r (suc s) = at_set (λ i. R (suc i)) d xs ys (omega arith) (λ i. h (suc i)) t x y r s

at_more : {A : Type 0} (R : ℕ → A → A → Type 0) (d : A) (xs ys us vs : List A) → length xs ≡ length ys
    → ((s : ℕ) → s < length xs → R s (get_or xs s d) (get_or ys s d)) → ((s : ℕ) → R (length xs + s) (get_or us s d) (get_or vs s d))
    → (s : ℕ) → R s (get_or (xs ++ us) s d) (get_or (ys ++ vs) s d)
at_more R d [] [] us vs c h g s = subst (λ (k : ℕ). R k (get_or us s d) (get_or vs s d)) (omega arith) (g s)
at_more R d [] (y ∷ ys) us vs c h g s = absurd (omega arith)
at_more R d (x ∷ xs) [] us vs c h g s = absurd (omega arith)
at_more R d (x ∷ xs) (y ∷ ys) us vs c h g zero = h 0 (omega arith)
at_more R d (x ∷ xs) (y ∷ ys) us vs c h g (suc s) =
    at_more (λ i. R (suc i)) d xs ys us vs (omega arith) (λ i b. h (suc i) (omega arith))
    (λ i. subst (λ (k : ℕ). R k (get_or us i d) (get_or vs i d)) (omega arith) (g i)) s

at-over : (R : ℕ → ℕ → ℕ → Type 0) (m m' : List ℕ) (p : ℕ) (vs vs' : List ℕ) → length m ≡ length m' → length vs ≡ length vs'
    → ((i : ℕ) → R i (get_or m i 0) (get_or m' i 0)) → ((j : ℕ) → j < length vs → R (p + j) (get_or vs j 0) (get_or vs' j 0))
    → (i : ℕ) → R i (get_or (over m p vs) i 0) (get_or (over m' p vs') i 0)
unfolding over
at-over R [] [] p vs vs' c d h g i = h i
at-over R [] (y ∷ m') p vs vs' c d h g i = absurd (omega arith)
at-over R (x ∷ m) [] p vs vs' c d h g i = absurd (omega arith)
at-over R (x ∷ m) (y ∷ m') (suc p) vs vs' c d h g zero = h 0
at-over R (x ∷ m) (y ∷ m') (suc p) vs vs' c d h g (suc i) =
    at-over (λ k. R (suc k)) m m' p vs vs' (omega arith) d (λ k. h (suc k))
    (λ j b. subst (λ (k : ℕ). R k (get_or vs j 0) (get_or vs' j 0)) (omega arith) (g j b)) i
at-over R (x ∷ m) (y ∷ m') zero [] [] c d h g i = h i
at-over R (x ∷ m) (y ∷ m') zero [] (w ∷ vs') c d h g i = absurd (omega arith)
at-over R (x ∷ m) (y ∷ m') zero (v ∷ vs) [] c d h g i = absurd (omega arith)
at-over R (x ∷ m) (y ∷ m') zero (v ∷ vs) (w ∷ vs') c d h g zero = g 0 (omega arith)
at-over R (x ∷ m) (y ∷ m') zero (v ∷ vs) (w ∷ vs') c d h g (suc i) =
    at-over (λ k. R (suc k)) m m' 0 vs vs' (omega arith) (omega arith) (λ k. h (suc k))
    (λ j b. subst (λ (k : ℕ). R k (get_or vs j 0) (get_or vs' j 0)) (omega arith) (g (suc j) (omega arith))) i

at-append : (R : ℕ → ℕ → ℕ → Type 0) (xs xs' ys ys' : List ℕ) → length xs ≡ length xs' → ((j : ℕ) → j < length xs → R j (get_or xs j 0) (get_or xs' j 0))
    → ((j : ℕ) → j < length ys → R (length xs + j) (get_or ys j 0) (get_or ys' j 0))
    → (j : ℕ) → j < length (xs ++ ys) → R j (get_or (xs ++ ys) j 0) (get_or (xs' ++ ys') j 0)
at-append R [] [] ys ys' c h g j b = subst (λ (k : ℕ). R k (get_or ys j 0) (get_or ys' j 0)) (omega arith) (g j b)
at-append R [] (y ∷ xs') ys ys' c h g j b = absurd (omega arith)
at-append R (x ∷ xs) [] ys ys' c h g j b = absurd (omega arith)
at-append R (x ∷ xs) (y ∷ xs') ys ys' c h g zero b = h 0 (omega arith)
at-append R (x ∷ xs) (y ∷ xs') ys ys' c h g (suc j) b =
    at-append (λ k. R (suc k)) xs xs' ys ys' (omega arith) (λ k l. h (suc k) (omega arith))
    (λ k l. subst (λ (i : ℕ). R i (get_or ys k 0) (get_or ys' k 0)) (omega arith) (g k l)) j (omega arith)

-- slot s of both, or none
by-slot : (P : File → File → Type 0) (fs fs' : List File) → length fs ≡ length fs' → (s : ℕ) → P no_file no_file
    → (s < length fs → P (get_or fs s no_file) (get_or fs' s no_file)) → P (get_or fs s no_file) (get_or fs' s no_file)
by-slot P fs fs' c s p q = go (dec_lt s (length fs))
  where
    go : Dec (s < length fs) → P (get_or fs s no_file) (get_or fs' s no_file)
    go (yes h) = q h
    go (no h) = rw (get_or-eq_default fs no_file {n = s} (omega arith), get_or-eq_default fs' no_file {n = s} (omega arith)) p

-- ---- what is put into a block

pub record Pieces (M S i : ℕ) (vs vs' : List ℕ) : Type 0 where
  pub count : length vs ≡ length vs'
  pub bytes : (j : ℕ) → j < length vs → LikeByte M S (i + j) (get_or vs j 0) (get_or vs' j 0)

pub data LikePuts (M S : ℕ) : List Put → List Put → Type 0 where
  none : LikePuts M S [] []
  next : (i : ℕ) {vs vs' : List ℕ} {ps ps' : List Put} → Pieces M S i vs vs' → LikePuts M S ps ps' → LikePuts M S (put i vs ∷ ps) (put i vs' ∷ ps')

buffer-unread : (i : ℕ) → 64 ≤ i → Unread i
buffer-unread i h = record { low = λ x. omega arith; date = λ x y. omega arith; position = λ x y. omega arith; rename = λ x y. omega arith }

ends-unread : (i : ℕ) → 17 ≤ i → i ≤ 22 → Unread i
ends-unread i h k = record { low = λ x. omega arith; date = λ x y. omega arith; position = λ x y. omega arith; rename = λ x y. omega arith }

place-unread : (i : ℕ) → 47 ≤ i → i ≤ 49 → Unread i
place-unread i h k = record { low = λ x. omega arith; date = λ x y. omega arith; position = λ x y. omega arith; rename = λ x y. omega arith }

module _ (M S : ℕ) where
  over-alike : (i : ℕ) {m m' vs vs' : List ℕ} → Pieces M S i vs vs' → LikeForm M S m m' → LikeForm M S (over m (0 + i) vs) (over m' (0 + i) vs')
  over-alike i {m} {m'} {vs} {vs'} p l = record {
    long = length_over m (0 + i) vs ∙ l.long ∙ sym (length_over m' (0 + i) vs');
    bytes = at-over (LikeByte M S) m m' (0 + i) vs vs' l.long p.count l.bytes
        (λ j b. subst (λ (k : ℕ). LikeByte M S k (get_or vs j 0) (get_or vs' j 0)) (omega arith) (p.bytes j b));
  }

  puts-alike : {ps ps' : List Put} → LikePuts M S ps ps' → {m m' : List ℕ} → LikeForm M S m m' → LikeForm M S (puts m 0 ps) (puts m' 0 ps')
  puts-alike none l = l
  puts-alike (next i p r) l = puts-alike r (over-alike i p l)

  puts-append : {ps ps' qs qs' : List Put} → LikePuts M S ps ps' → LikePuts M S qs qs' → LikePuts M S (ps ++ qs) (ps' ++ qs')
  puts-append none r = r
  puts-append (next i p l) r = next i p (puts-append l r)

  -- the same bytes; those of byte 31 below 256
  piece-same : (i : ℕ) (vs vs' : List ℕ) → vs ≡ vs' → ((j : ℕ) → j < length vs → i + j ≡ 31 → get_or vs j 0 < 256) → Pieces M S i vs vs'
  piece-same i vs vs' e h = record { count = ap length e; bytes = λ j b. same (ap (λ (l : List ℕ). get_or l j 0) e) (h j b) }

  piece-behind : (i : ℕ) (vs vs' : List ℕ) → 31 < i → vs ≡ vs' → Pieces M S i vs vs'
  piece-behind i vs vs' h e = piece-same i vs vs' e (λ j b d. absurd (omega arith))

  piece-before : (i : ℕ) (vs : List ℕ) → i + length vs ≤ 31 → Pieces M S i vs vs
  piece-before i vs h = piece-same i vs vs refl (λ j b d. absurd (omega arith))

  piece-one : (i v : ℕ) → i ≢ 31 → Pieces M S i (one v) (one v)
  piece-one i v h = piece-same i (one v) (one v) refl (λ j b d. absurd (h (omega (arith, length-one v))))

  piece-unread : (i : ℕ) (vs vs' : List ℕ) → length vs ≡ length vs' → ((j : ℕ) → j < length vs → Unread (i + j)) → Pieces M S i vs vs'
  piece-unread i vs vs' e h = record { count = e; bytes = λ j b. unread (h j b) }

  piece-buffer : (vs vs' : List ℕ) → length vs ≡ length vs' → Pieces M S 64 vs vs'
  piece-buffer vs vs' e = piece-unread 64 vs vs' e (λ j b. buffer-unread (64 + j) (omega arith))

  piece-ends : (x y w x' y' w' : ℕ) → Pieces M S 17 (six x y w) (six x' y' w')
  piece-ends x y w x' y' w' =
      piece-unread 17 (six x y w) (six x' y' w') (length-six x y w ∙ sym (length-six x' y' w'))
      (λ j b. ends-unread (17 + j) (omega arith) (omega (arith, length-six x y w)))

  piece-place : (o o' : ℕ) → Pieces M S 47 (place_of S o) (place_of S o')
  unfolding place_of two one
  piece-place o o' = piece-unread 47 (place_of S o) (place_of S o') refl (λ j b. place-unread (47 + j) (omega arith) (omega arith))

  piece-zeros : (c : ℕ) → Pieces M S 30 (zeros c) (zeros c)
  piece-zeros c = piece-same 30 (zeros c) (zeros c) refl (λ j b d. omega (arith, zeros-at c j))

  -- the 24 bytes of a slot
  piece-entry : (f f' : File) → LikeFile M S f f' → Long f f' → Pieces M S 4 (entry_of f) (entry_of f')
  unfolding entry_of
  piece-entry f f' l g = record {
    count = omega (
      arith,
      length-append f.name (f.mode ++ (f.ends ++ (f.map ++ f.date))),
      length-append f.mode (f.ends ++ (f.map ++ f.date)),
      length-append f.ends (f.map ++ f.date),
      length-append f.map f.date,
      length-append f'.name (f'.mode ++ (f'.ends ++ (f'.map ++ f'.date))),
      length-append f'.mode (f'.ends ++ (f'.map ++ f'.date)),
      length-append f'.ends (f'.map ++ f'.date),
      length-append f'.map f'.date,
      ap length l.twin.name,
      ap length l.twin.mode,
      ap length l.twin.map,
      ap length l.twin.date,
    );
    bytes = at-append (λ (j : ℕ). LikeByte M S (4 + j)) f.name f'.name _ _ (ap length l.twin.name)
        (λ j b. same (ap (λ (x : List ℕ). get_or x j 0) l.twin.name) (λ e. absurd (omega (arith, g.name))))
        (at-append (λ (j : ℕ). LikeByte M S (4 + (length f.name + j))) f.mode f'.mode _ _ (ap length l.twin.mode)
        (λ j b. same (ap (λ (x : List ℕ). get_or x j 0) l.twin.mode) (λ e. absurd (omega (arith, g.name, g.mode))))
        (at-append (λ (j : ℕ). LikeByte M S (4 + (length f.name + (length f.mode + j)))) f.ends f'.ends _ _ (g.ends ∙ sym g.ends')
        (λ j b. unread (ends-unread _ (omega (arith, g.name, g.mode)) (omega (arith, g.name, g.mode, g.ends))))
        (at-append (λ (j : ℕ). LikeByte M S (4 + (length f.name + (length f.mode + (length f.ends + j))))) f.map f'.map _ _ (ap length l.twin.map)
        (λ j b. same (ap (λ (x : List ℕ). get_or x j 0) l.twin.map) (λ e. absurd (omega (arith, g.name, g.mode, g.ends, g.map))))
        (λ j b. same (ap (λ (x : List ℕ). get_or x j 0) l.twin.date) (λ e. absurd (omega (arith, g.name, g.mode, g.ends, g.map, g.date)))))));
  }

  -- a position that is an address
  module _ (z : Shape M S) where
    lies : (k : ℕ) → InData M S k → Lies 1 M 1 S (adr S k)
    lies k h = data_is M S (adr S k) (sector-data M S z k h)

    piece-position : (k k' : ℕ) → InData M S k → InData M S k' → Pieces M S 30 (two (adr S k)) (two (adr S k'))
    unfolding two
    piece-position k k' h h' = record { count = refl; bytes = go }
      where
        l : Lies 1 M 1 S (adr S k)
        l = lies k h

        l' : Lies 1 M 1 S (adr S k')
        l' = lies k' h'

        go : (j : ℕ) → j < 2 → LikeByte M S (30 + j) (get_or (two (adr S k)) j 0) (get_or (two (adr S k')) j 0)
        go zero b = track refl l.track_low l.track_high l'.track_low l'.track_high
        go (suc zero) b = sector refl l.sector_low l.sector_high l'.sector_low l'.sector_high
        go (suc (suc j)) b = absurd (omega arith)

    -- two bytes of which the one is of an address, as a track or a sector number
    track-ok : (x y : ℕ) → x ≤ M → y < 256 → leb ((x * 256 + y) / 256 % 256) M ≡ true
    track-ok x y h k = let e : (x * 256 + y) / 256 % 256 ≡ x = omega (arith, z) in ap (λ (t : ℕ). leb t M) e ∙ le-leb x M h

    sector-ok : (x y : ℕ) → 1 ≤ y → y ≤ S → within 1 S ((x * 256 + y) % 256) ≡ true
    sector-ok x y h k = let e : (x * 256 + y) % 256 ≡ y = omega (arith, z) in ap (within 1 S) e ∙ within-true 1 S y h k

    -- any mixture is judged alike
    judged : (x x' y y' : ℕ) → LikeByte M S 30 x x' → LikeByte M S 31 y y' → is_sector M S (x * 256 + y) ≡ is_sector M S (x' * 256 + y')
    unfolding is_sector
    judged x x' y y' (unread u) q = absurd (u.position (omega arith) (omega arith))
    judged x x' y y' (sector e a b c d) q = absurd (omega arith)
    judged x x' y y' (same e w) (unread u) = absurd (u.position (omega arith) (omega arith))
    judged x x' y y' (same e w) (track f a b c d) = absurd (omega arith)
    judged x x' y y' (same e w) (same f v) = λ i. is_sector M S (e i * 256 + f i)
    judged x x' y y' (same e w) (sector f a b c d) =
        let t : (x * 256 + y) / 256 % 256 ≡ (x' * 256 + y') / 256 % 256 = omega (arith, z) in
        rw (sector-ok x y a b, sector-ok x' y' c d) (ap (λ (t : ℕ). pick (leb t M) true false) t)
    judged x x' y y' (track e a b c d) (unread u) = absurd (u.position (omega arith) (omega arith))
    judged x x' y y' (track e a b c d) (track f k l m n) = absurd (omega arith)
    judged x x' y y' (track e a b c d) (same f v) =
        let small : y < 256 = v refl in
        let s : (x * 256 + y) % 256 ≡ (x' * 256 + y') % 256 = omega arith in
        rw (track-ok x y b small, track-ok x' y' d (omega arith)) (ap (within 1 S) s)
    judged x x' y y' (track e a b c d) (sector f k l m n) =
        rw (track-ok x y b (omega (arith, z)), track-ok x' y' d (omega (arith, z)), sector-ok x y k l, sector-ok x' y' m n) refl

-- ---- what a request reads

module _ (M S : ℕ) (m m' : List ℕ) (l : LikeForm M S m m') where
  byte-read : (i : ℕ) → (Unread i → ⊥) → i ≢ 30 → i ≢ 31 → get_or m i 0 ≡ get_or m' i 0
  byte-read i u a b = go (l.bytes i)
    where
      go : LikeByte M S i (get_or m i 0) (get_or m' i 0) → get_or m i 0 ≡ get_or m' i 0
      go (same e w) = e
      go (track e x y v w) = absurd (a e)
      go (sector e x y v w) = absurd (b e)
      go (unread w) = absurd (u w)

  low_read : (i : ℕ) → i ≤ 14 → get_or m i 0 ≡ get_or m' i 0
  low_read i h = byte-read i (λ u. u.low h) (omega arith) (omega arith)

  part-read : (i c : ℕ) → ((j : ℕ) → j < c → (Unread (i + j) → ⊥) × (i + j ≢ 30) × (i + j ≢ 31)) → part m i c ≡ part m' i c
  part-read i c h = sym (part_same m m' i i c (λ j b. let k = h j b in sym (byte-read (i + j) k.0 k.1 k.2)))

  name-read : part m 4 11 ≡ part m' 4 11
  name-read = part-read 4 11 (λ j b. ((λ u. u.low (omega arith)), (omega arith), (omega arith)))

  rename-read : part m 53 11 ≡ part m' 53 11
  rename-read = part-read 53 11 (λ j b. ((λ u. u.rename (omega arith) (omega arith)), (omega arith), (omega arith)))

  date-read : part m 25 3 ≡ part m' 25 3
  date-read = part-read 25 3 (λ j b. ((λ u. u.date (omega arith) (omega arith)), (omega arith), (omega arith)))

  position-read : Shape M S → is_sector M S (word_at m 30) ≡ is_sector M S (word_at m' 30)
  unfolding word_at
  position-read z = judged M S z (get_or m 30 0) (get_or m' 30 0) (get_or m 31 0) (get_or m' 31 0) (l.bytes 30) (l.bytes 31)

  preset-read : (i v : ℕ) → preset_in m 0 i v ≡ preset_in m' 0 i v
  unfolding preset_in
  preset-read i v = rw (low_read 2 (omega arith)) refl

  extension-read : (c : ℕ) → extension_in m 0 c ≡ extension_in m' 0 c
  unfolding extension_in
  extension-read c = rw (low_read 2 (omega arith), low_read 12 (omega arith)) refl

-- ---- searches, and what is shown

seek-alike : (M S : ℕ) (look : List ℕ → Bool) (fs fs' : List File) → length fs ≡ length fs' → ((s : ℕ) → LikeFile M S (get_or fs s no_file) (get_or fs' s no_file))
    → seek look fs ≡ seek look fs'
unfolding seek
seek-alike M S look [] [] c h = refl
seek-alike M S look [] (f ∷ fs') c h = absurd (omega arith)
seek-alike M S look (f ∷ fs) [] c h = absurd (omega arith)
seek-alike M S look (f ∷ fs) (f' ∷ fs') c h =
    let r = seek-alike M S look fs fs' (omega arith) (λ s. h (suc s)) in
    λ i. pick (look ((h 0).twin.name i)) (slot 0) (later (r i))

files-shown : (M S : ℕ) (bs : List Block) (s : ℕ) (fs fs' : List File) → length fs ≡ length fs' → ((s : ℕ) → LikeFile M S (get_or fs s no_file) (get_or fs' s no_file))
    → shown_from bs s fs ≡ shown_from bs s fs'
unfolding shown_from
files-shown M S bs s [] [] c h = refl
files-shown M S bs s [] (f ∷ fs') c h = absurd (omega arith)
files-shown M S bs s (f ∷ fs) [] c h = absurd (omega arith)
files-shown M S bs s (f ∷ fs) (f' ∷ fs') c h =
    let r = files-shown M S bs (s + 1) fs fs' (omega arith) (λ t. h (suc t)) in
    let l = h 0 in
    let e : as_shown f (pending bs s 8) ≡ as_shown f' (pending bs s 8) = λ i. record { name = l.twin.name i; mode = l.twin.mode i; map = l.twin.map i; date = l.twin.date i; bytes = content (l.twin.body i) (pending bs s 8) } in
    λ i. pick (live (l.twin.name i) 0) (e i ∷ r i) (r i)

shown-alike : (M S : ℕ) (a a' : Ledger) → Alike M S a a' → shown a ≡ shown a'
shown-alike M S a a' r = files-shown M S a.blocks 0 a.slots a'.slots r.count r.files ∙ ap (λ (bs : List Block). shown_from bs 0 a'.slots) r.blocks

-- ---- changes of files

module _ (M S : ℕ) (f f' : File) (l : LikeFile M S f f') where
  abbrev t : Twin f f'
  t = l.twin

  like-last : (d : List ℕ) → LikeFile M S (with_last f d) (with_last f' d)
  like-last d = record {
    twin = record { name = t.name; mode = t.mode; map = t.map; date = t.date; recs = t.recs; body = λ i. set_last (t.body i) d };
    size = l.size;
    secs = l.secs;
    secs' = l.secs';
  }

  like-new : (k k' : ℕ) → InData M S k → InData M S k' → LikeFile M S (with_new S f k) (with_new S f' k')
  like-new k k' h h' = record {
    twin = record {
      name = t.name;
      mode = t.mode;
      map = t.map;
      date = t.date;
      recs = λ i. t.recs i ++ two (l.size i + 1) ∷ [];
      body = λ i. t.body i ++ zeros 252 ∷ [];
    };
    size = length-append f.secs (k ∷ []) ∙ ap (λ (n : ℕ). n + 1) l.size ∙ sym (length-append f'.secs (k' ∷ []));
    secs = each_append (InData M S) f.secs (k ∷ []) l.secs (h, tt);
    secs' = each_append (InData M S) f'.secs (k' ∷ []) l.secs' (h', tt);
  }

  like-mark : LikeFile M S (with_mark f) (with_mark f')
  like-mark = record {
    twin = record { name = λ i. set (t.name i) 0 255; mode = t.mode; map = t.map; date = t.date; recs = refl; body = refl };
    size = refl;
    secs = tt;
    secs' = tt;
  }

  like-name : (nm : List ℕ) → LikeFile M S (with_name f nm) (with_name f' nm)
  like-name nm = record {
    twin = record { name = refl; mode = t.mode; map = t.map; date = t.date; recs = t.recs; body = t.body };
    size = l.size;
    secs = l.secs;
    secs' = l.secs';
  }

like-made : (M S o o' : ℕ) (nm date : List ℕ) → LikeFile M S (new_file o nm date) (new_file o' nm date)
like-made M S o o' nm date = record {
  twin = record { name = refl; mode = refl; map = refl; date = refl; recs = refl; body = refl };
  size = refl;
  secs = tt;
  secs' = tt;
}

-- slots that were never used, or none
like-unused : (M S o o' n s : ℕ) → LikeFile M S (get_or (unused_slots o n) s no_file) (get_or (unused_slots o' n) s no_file)
unfolding unused_slots
like-unused M S o o' zero s = record { twin = record { name = refl; mode = refl; map = refl; date = refl; recs = refl; body = refl }; size = refl; secs = tt; secs' = tt }
like-unused M S o o' (suc n) zero = record { twin = record { name = refl; mode = refl; map = refl; date = refl; recs = refl; body = refl }; size = refl; secs = tt; secs' = tt }
like-unused M S o o' (suc n) (suc s) = like-unused M S (o + 24) (o' + 24) n s

long-unused : (o o' n s : ℕ) → s < n → Long (get_or (unused_slots o n) s no_file) (get_or (unused_slots o' n) s no_file)
unfolding unused_slots zeros
long-unused o o' zero s h = absurd (omega arith)
long-unused o o' (suc n) zero h = record { name = refl; mode = refl; ends = refl; ends' = refl; map = refl; date = refl }
long-unused o o' (suc n) (suc s) h = long-unused (o + 24) (o' + 24) n s (omega arith)

module _ (f f' : File) (g : Long f f') where
  long-last : (d : List ℕ) → Long (with_last f d) (with_last f' d)
  long-last d = record { name = g.name; mode = g.mode; ends = g.ends; ends' = g.ends'; map = g.map; date = g.date }

  long-new : (S k k' : ℕ) → Long (with_new S f k) (with_new S f' k')
  long-new S k k' = record { name = g.name; mode = g.mode; ends = length-six _ _ _; ends' = length-six _ _ _; map = g.map; date = g.date }

  long-mark : Long (with_mark f) (with_mark f')
  long-mark = record { name = length-set f.name 0 255 ∙ g.name; mode = g.mode; ends = g.ends; ends' = g.ends'; map = g.map; date = g.date }

  long-name : (nm : List ℕ) → length nm ≡ 11 → Long (with_name f nm) (with_name f' nm)
  long-name nm h = record { name = h; mode = g.mode; ends = g.ends; ends' = g.ends'; map = g.map; date = g.date }

long-made : (o o' : ℕ) (nm date : List ℕ) → length nm ≡ 11 → length date ≡ 3 → Long (new_file o nm date) (new_file o' nm date)
unfolding zeros
long-made o o' nm date h k = record { name = h; mode = refl; ends = refl; ends' = refl; map = refl; date = omega arith }

-- ---- changes of ledgers

module _ (M S : ℕ) (a a' : Ledger) (r : Alike M S a a') where
  alike-block : (n : ℕ) (b b' : Block) → b ≡ b' → Alike M S (set_block a n b) (set_block a' n b')
  alike-block n b b' e = record {
    free = r.free;
    frees = r.frees;
    frees' = r.frees';
    count = r.count;
    files = r.files;
    long = r.long;
    blocks = λ i. set (r.blocks i) n (e i);
    number = r.number;
    fcbs = r.fcbs;
  }

  alike-free : (ks ks' : List ℕ) (vs vs' : List (List ℕ)) (s : ℕ) (f f' : File) (n : ℕ) (b b' : Block) → length ks ≡ length ks' → Each (InData M S) ks
      → Each (InData M S) ks' → LikeFile M S f f' → (s < length a.slots → Long f f') → b ≡ b'
      → Alike M S (set_free a ks vs s f n b) (set_free a' ks' vs' s f' n b')
  alike-free ks ks' vs vs' s f f' n b b' c d d' l g e = record {
    free = c;
    frees = d;
    frees' = d';
    count = length-set a.slots s f ∙ r.count ∙ sym (length-set a'.slots s f');
    files = at_set (λ (t : ℕ). LikeFile M S) no_file a.slots a'.slots r.count r.files s f f' l;
    long = λ t h. at_set (λ (t : ℕ) (x y : File). t < length a.slots → Long x y) no_file a.slots a'.slots r.count r.long s f f' g t
        (omega (arith, length-set a.slots s f));
    blocks = λ i. set (r.blocks i) n (e i);
    number = r.number;
    fcbs = r.fcbs;
  }

  alike-file : (s : ℕ) (f f' : File) (n : ℕ) (b b' : Block) → LikeFile M S f f' → (s < length a.slots → Long f f') → b ≡ b'
      → Alike M S (set_file a s f n b) (set_file a' s f' n b')
  alike-file s f f' n b b' l g e = alike-free a.free a'.free a.spare a'.spare s f f' n b b' r.free r.frees r.frees' l g e

  -- the directory grows, in each by another sector
  alike-grown : (k k' : ℕ) (ks ks' : List ℕ) (f f' : File) (n : ℕ) (b b' : Block) → length ks ≡ length ks' → Each (InData M S) ks → Each (InData M S) ks'
      → LikeFile M S f f' → Long f f' → b ≡ b' → Alike M S (add_sector a k ks f n b) (add_sector a' k' ks' f' n b')
  alike-grown k k' ks ks' f f' n b b' c d d' l g e =
      let us = f ∷ unused_slots (first_slot_of k + 24) 9 in
      let us' = f' ∷ unused_slots (first_slot_of k' + 24) 9 in
      record {
        free = c;
        frees = d;
        frees' = d';
        count = length-append a.slots us
            ∙ omega (arith, r.count, length-unused (first_slot_of k + 24) 9, length-unused (first_slot_of k' + 24) 9) ∙ sym (length-append a'.slots us');
        files = at_more (λ (t : ℕ). LikeFile M S) no_file a.slots a'.slots us us' r.count (λ s h. r.files s) new;
        long = λ s h. at_more (λ (t : ℕ) (x y : File). t < length a.slots + 10 → Long x y) no_file a.slots a'.slots us us' r.count
            (λ t u v. r.long t u) long (s) (omega (arith, h, length-append a.slots us, length-unused (first_slot_of k + 24) 9));
        blocks = λ i. set (r.blocks i) n (e i);
        number = r.number;
        fcbs = r.fcbs;
      }
    where
      new : (s : ℕ) → LikeFile M S (get_or (f ∷ unused_slots (first_slot_of k + 24) 9) s no_file) (get_or (f' ∷ unused_slots (first_slot_of k' + 24) 9) s no_file)
      new zero = l
      new (suc s) = like-unused M S (first_slot_of k + 24) (first_slot_of k' + 24) 9 s

      long : (s : ℕ) → length a.slots + s < length a.slots + 10
          → Long (get_or (f ∷ unused_slots (first_slot_of k + 24) 9) s no_file) (get_or (f' ∷ unused_slots (first_slot_of k' + 24) 9) s no_file)
      long zero h = g
      long (suc s) h = long-unused (first_slot_of k + 24) (first_slot_of k' + 24) 9 s (omega arith)

  alike-puts : (n : ℕ) (ps ps' : List Put) → LikePuts M S ps ps' → Alike M S (put_into a n ps) (put_into a' n ps')
  alike-puts n ps ps' p = record {
    free = r.free;
    frees = r.frees;
    frees' = r.frees';
    count = r.count;
    files = r.files;
    long = r.long;
    blocks = r.blocks;
    number = length-set a.fcbs n (puts (fcb a n) 0 ps) ∙ r.number ∙ sym (length-set a'.fcbs n (puts (fcb a' n) 0 ps'));
    fcbs = at_set (λ (t : ℕ). LikeForm M S) [] a.fcbs a'.fcbs r.number r.fcbs n (puts (fcb a n) 0 ps) (puts (fcb a' n) 0 ps')
        (puts-alike M S p (r.fcbs n));
  }

  entry-alike : (s : ℕ) → Pieces M S 4 (entry_of (file a s)) (entry_of (file a' s))
  unfolding entry_of
  entry-alike s =
      by-slot (λ (f f' : File). Pieces M S 4 (entry_of f) (entry_of f')) a.slots a'.slots r.count s (piece-before M S 4 [] (omega arith))
      (λ h. piece-entry M S (file a s) (file a' s) (r.files s) (r.long s h))

  marked-alike : (s : ℕ) → Pieces M S 4 (entry_of (with_mark (file a s))) (entry_of (with_mark (file a' s)))
  unfolding entry_of
  marked-alike s =
      by-slot (λ (f f' : File). Pieces M S 4 (entry_of (with_mark f)) (entry_of (with_mark f'))) a.slots a'.slots r.count s (piece-before M S 4 [] (omega arith))
      (λ h. piece-entry M S _ _ (like-mark M S (file a s) (file a' s) (r.files s)) (long-mark (file a s) (file a' s) (r.long s h)))

-- ---- fates

pub data LikeFate (M S : ℕ) : Fate → Fate → Type 0 where
  refused : {e e' : ℕ} → e ≡ e' → LikeFate M S (denied e) (denied e')
  accepted : {b b' : ℕ} {a a' : Ledger} {ps ps' : List Put} → b ≡ b' → Alike M S a a' → LikePuts M S ps ps' → LikeFate M S (granted b a ps) (granted b' a' ps')

module _ (M S : ℕ) where
  like-pick : (u u' : Bool) (x y x' y' : Fate) → u ≡ u' → (u ≡ true → LikeFate M S x x') → LikeFate M S y y' → LikeFate M S (pick u x y) (pick u' x' y')
  like-pick u u' x y x' y' e p q = subst (λ (v : Bool). LikeFate M S (pick u x y) (pick v x' y')) e (go u p)
    where
      go : (u : Bool) → (u ≡ true → LikeFate M S x x') → LikeFate M S (pick u x y) (pick u x' y')
      go true p = p refl
      go false p = q

  like-sought : (k k' : Sought) (x x' : Fate) (f f' : ℕ → Fate) → k ≡ k' → LikeFate M S x x' → ((s : ℕ) → LikeFate M S (f s) (f' s))
      → LikeFate M S (on_sought k x f) (on_sought k' x' f')
  like-sought k k' x x' f f' e p q = subst (λ (v : Sought). LikeFate M S (on_sought k x f) (on_sought v x' f')) e (go k)
    where
      go : (k : Sought) → LikeFate M S (on_sought k x f) (on_sought k x' f')
      go nowhere = p
      go (slot s) = q s

  like-ended : {φ ψ : Fate} → LikeFate M S φ ψ → LikeFate M S (ended φ) (ended ψ)
  like-ended (refused e) = refused e
  like-ended (accepted e r p) = accepted e r (puts-append M S p (next 1 (piece-one M S 1 0 (omega arith)) none))

  like-after : (n : ℕ) (a a' : Ledger) {φ ψ : Fate} → Alike M S a a' → LikeFate M S φ ψ → Alike M S (after a n φ) (after a' n ψ)
  like-after n a a' r (refused e) = r
  like-after n a a' r (accepted {a = b} {a' = b'} {ps = ps} {ps' = ps'} e l p) = alike-puts M S b b' l n ps ps' p

  like-reply : {φ ψ : Fate} → LikeFate M S φ ψ → reply φ ≡ reply ψ
  like-reply (refused e) = e
  like-reply (accepted e l p) = refl

  like-gives : {φ ψ : Fate} → LikeFate M S φ ψ → gives φ ≡ gives ψ
  like-gives (refused e) = refl
  like-gives (accepted e l p) = e

-- ---- the functions: block n asks in both ledgers for the same, but for the position, which is judged alike

module _ (M S : ℕ) (z : Shape M S) (a a' : Ledger) (r : Alike M S a a') (n : ℕ) (q : Request) (p' : ℕ) where
  abbrev q' : Request
  q' = record { code = q.code; drive = q.drive; name = q.name; rename = q.rename; date = q.date; position = p'; byte = q.byte }

  abbrev L : Fate → Fate → Type 0
  L = LikeFate M S

  block-alike : block a n ≡ block a' n
  block-alike = ap (λ (bs : List Block). get_or bs n closed) r.blocks

  busy-alike : (u : Bool) (s : ℕ) → busy u s a.blocks 8 ≡ busy u s a'.blocks 8
  busy-alike u s = ap (λ (bs : List Block). busy u s bs 8) r.blocks

  named-alike : (nm : List ℕ) → file_named nm a.slots ≡ file_named nm a'.slots
  named-alike nm = seek-alike M S (λ x. named x nm 0) a.slots a'.slots r.count r.files

  mode-alike : (s : ℕ) → attributes a s ≡ attributes a' s
  mode-alike s = ap (λ (l : List ℕ). get_or l 0 0) (r.files s).twin.mode

  sent-alike : (i : ℕ) → LikePuts M S (sent i q.byte) (sent i q.byte)
  unfolding sent
  sent-alike i = next (64 + i) (piece-behind M S (64 + i) _ _ (omega arith) refl) (next 34 (piece-one M S 34 _ (omega arith)) none)

  take-alike : (s : ℕ) (ks ks' : List ℕ) → length ks ≡ length ks' → Each (InData M S) ks → Each (InData M S) ks'
      → L (taken M S a n q s ks) (taken M S a' n q' s ks')
  unfolding take_puts
  take-alike s [] [] c h h' = refused refl
  take-alike s [] (k' ∷ ks') c h h' = absurd (omega arith)
  take-alike s (k ∷ ks) [] c h h' = absurd (omega arith)
  take-alike s (k ∷ ks) (k' ∷ ks') c h h' =
      let l = r.files s in
      let e : length (file a s).secs + 1 ≡ length (file a' s).secs + 1 = ap (λ (x : ℕ). x + 1) l.size in
      accepted refl
      (alike-free M S a a' r ks ks' _ _ s _ _ n (writing s (q.byte ∷ [])) _ (omega arith) h.1 h'.1 (like-new M S (file a s) (file a' s) l k k' h.0 h'.0)
      (λ b. long-new (file a s) (file a' s) (r.long s b) S k k') refl)
      (puts-append M S
      (next 17 (piece-ends M S _ _ _ _ _ _)
      (next 64 (piece-behind M S 64 _ _ (omega arith) (ap fresh e))
      (next 30 (piece-position M S z k k' h.0 h'.0)
      (next 32 (piece-behind M S 32 _ _ (omega arith) (ap two e))
      (next 34 (piece-one M S 34 4 (omega arith)) none)))))
      (sent-alike 4))

  load-alike : (s j : ℕ) → j < length (file a s).secs → LikePuts M S (loaded S (file a s) j) (loaded S (file a' s) j)
  unfolding loaded two
  load-alike s j h =
      let l = r.files s in
      let e : get_or (file a s).recs j [] ≡ get_or (file a' s).recs j [] = ap (λ (x : List (List ℕ)). get_or x j []) l.twin.recs in
      let d : get_or (file a s).body j [] ≡ get_or (file a' s).body j [] = ap (λ (x : List (List ℕ)). get_or x j []) l.twin.body in
      next 30 (piece-position M S z _ _ (each_at (InData M S) (file a s).secs j 0 l.secs h) (each_at (InData M S) (file a' s).secs j 0 l.secs' (omega (arith, l.size))))
      (next 32 (piece-behind M S 32 _ _ (omega arith) e)
      (next 64 (piece-buffer M S _ _ (λ i. suc (suc (length (e i ++ d i)))))
      (next 34 (piece-one M S 34 5 (omega arith)) none)))

  transfer-alike : (o : Block) → L (transferred M S a n q o) (transferred M S a' n q' o)
  transfer-alike closed = refused refl
  transfer-alike (listing p) = refused refl
  transfer-alike (reading s j i) =
      let l = r.files s in
      like-pick M S (eqb i 0) _ _ _ _ _ refl
      (λ _. like-pick M S (ltb j (length (file a s).secs)) _ _ _ _ _ (ap (ltb j) l.size)
      (λ h. accepted (ap (λ (x : List (List ℕ)). get_or (get_or x j []) 0 0) l.twin.body) (alike-block M S a a' r n _ _ refl) (load-alike s j (ltb-true j _ h)))
      (refused refl))
      (accepted (ap (λ (x : List (List ℕ)). get_or (get_or x (j - 1) []) (i - 4) 0) l.twin.body) (alike-block M S a a' r n _ _ refl)
      (next 34 (piece-one M S 34 _ (omega arith)) none))
  transfer-alike (writing s ub) =
      like-pick M S (eqb (length ub) 0) _ _ _ _ _ refl (λ _. take-alike s a.free a'.free r.free r.frees r.frees')
      (like-pick M S (eqb (length ub) 251) _ _ _ _ _ refl
      (λ _. accepted refl
      (alike-file M S a a' r s _ _ n (writing s []) _ (like-last M S (file a s) (file a' s) (r.files s) _) (λ b. long-last (file a s) (file a' s) (r.long s b) _) refl)
      (sent-alike 255))
      (accepted refl (alike-block M S a a' r n _ _ refl) (sent-alike (4 + length ub))))

  opened-alike : (act o o' : ℕ) (e e' : List ℕ) → Pieces M S 4 e e' → LikePuts M S (opened S act o e) (opened S act o' e')
  unfolding opened
  opened-alike act o o' e e' p =
      next 4 p
      (next 0 (piece-one M S 0 0 (omega arith))
      (next 30 (piece-zeros M S 6)
      (next 2 (piece-one M S 2 act (omega arith))
      (next 47 (piece-place M S o o')
      (next 59 (piece-one M S 59 255 (omega arith)) none)))))

  open-read-alike : L (opened_to_read M S a n q) (opened_to_read M S a' n q')
  unfolding opened_to_read
  open-read-alike =
      like-pick M S (legal q.name 0) _ _ _ _ _ refl
      (λ _. like-sought M S (file_named q.name a.slots) _ _ _ _ _ (named-alike q.name) (refused refl)
      (λ s. like-pick M S (read_protected (attributes a s)) _ _ _ _ _ (ap read_protected (mode-alike s)) (λ _. refused refl)
      (like-pick M S (busy false s a.blocks 8) _ _ _ _ _ (busy-alike false s) (λ _. refused refl)
      (accepted refl (alike-block M S a a' r n _ _ refl) (opened-alike 1 _ _ _ _ (entry-alike M S a a' r s))))))
      (refused refl)

  grow-alike : length q.name ≡ 11 → length q.date ≡ 3 → (ks ks' : List ℕ) → length ks ≡ length ks' → Each (InData M S) ks → Each (InData M S) ks'
      → L (grown M S a n q ks) (grown M S a' n q' ks')
  grow-alike ln ld [] [] c h h' = refused refl
  grow-alike ln ld [] (k' ∷ ks') c h h' = absurd (omega arith)
  grow-alike ln ld (k ∷ ks) [] c h h' = absurd (omega arith)
  grow-alike ln ld (k ∷ ks) (k' ∷ ks') c h h' =
      let l = like-made M S (first_slot_of k) (first_slot_of k') q.name q.date in
      let g = long-made (first_slot_of k) (first_slot_of k') q.name q.date ln ld in
      accepted refl
      (alike-grown M S a a' r k k' ks ks' _ _ n (writing (length a.slots) []) (writing (length a'.slots) []) (omega arith) h.1 h'.1 l g
      (ap (λ (s : ℕ). writing s []) r.count))
      (opened-alike 2 _ _ _ _ (piece-entry M S _ _ l g))

  open-write-alike : length q.name ≡ 11 → length q.date ≡ 3 → L (opened_to_write M S a n q) (opened_to_write M S a' n q')
  unfolding opened_to_write
  open-write-alike ln ld =
      like-pick M S (legal q.name 0) _ _ _ _ _ refl
      (λ _. like-sought M S (file_named q.name a.slots) _ _ _ _ _ (named-alike q.name)
      (like-sought M S (vacant_slot a.slots) _ _ _ _ _ (seek-alike M S (λ x. vacant x 0) a.slots a'.slots r.count r.files)
      (grow-alike ln ld a.free a'.free r.free r.frees r.frees')
      (λ s.
      let l = like-made M S (file a s).at (file a' s).at q.name q.date in
      let g = long-made (file a s).at (file a' s).at q.name q.date ln ld in
      accepted refl (alike-file M S a a' r s _ _ n (writing s []) _ l (λ b. g) refl) (opened-alike 2 _ _ _ _ (piece-entry M S _ _ l g))))
      (λ s. refused refl))
      (refused refl)

  shut-puts : LikePuts M S shut shut
  unfolding shut
  shut-puts = next 2 (piece-one M S 2 0 (omega arith)) none

  shut-alike : (o : Block) → L (shut_block M S a n q o) (shut_block M S a' n q' o)
  shut-alike closed = refused refl
  shut-alike (listing p) = accepted refl (alike-block M S a a' r n closed _ refl) shut-puts
  shut-alike (reading s j i) = accepted refl (alike-block M S a a' r n closed _ refl) shut-puts
  shut-alike (writing s ub) =
      let l = r.files s in
      like-pick M S (eqb (length (file a s).secs) 0) _ _ _ _ _ (ap (λ (c : ℕ). eqb c 0) l.size)
      (λ _. accepted refl
      (alike-file M S a a' r s _ _ n closed _ (like-mark M S (file a s) (file a' s) l) (λ b. long-mark (file a s) (file a' s) (r.long s b)) refl) shut-puts)
      (like-pick M S (eqb (length ub) 0) _ _ _ _ _ refl (λ _. accepted refl (alike-block M S a a' r n closed _ refl) shut-puts)
      (accepted refl
      (alike-file M S a a' r s _ _ n closed _ (like-last M S (file a s) (file a' s) l _) (λ b. long-last (file a s) (file a' s) (r.long s b) _) refl) shut-puts))

  rewind-alike : (o : Block) → L (rewound M S a n q o) (rewound M S a' n q' o)
  rewind-alike closed = refused refl
  rewind-alike (listing p) = refused refl
  rewind-alike (reading s j i) =
      accepted refl (alike-block M S a a' r n _ _ refl)
      (next 0 (piece-one M S 0 0 (omega arith))
      (next 30 (piece-same M S 30 (two 0) (two 0) refl (λ j b d. (small-two 0).at j))
      (next 34 (piece-one M S 34 0 (omega arith)) none)))
  rewind-alike (writing s ub) = refused refl

  list-alike : (o : Block) → L (shown_next M S a n q o) (shown_next M S a' n q' o)
  list-alike closed = refused refl
  list-alike (listing p) =
      like-pick M S (ltb p (length a.slots)) _ _ _ _ _ (ap (ltb p) r.count)
      (λ _. accepted refl (alike-block M S a a' r n _ _ refl)
      (next 47 (piece-place M S _ _) (next 4 (entry-alike M S a a' r p) none)))
      (refused refl)
  list-alike (reading s j i) = refused refl
  list-alike (writing s ub) = refused refl

  directory-alike : L (directory_opened M S a n q) (directory_opened M S a' n q')
  directory-alike =
      accepted refl (alike-block M S a a' r n _ _ refl) (next 2 (piece-one M S 2 16 (omega arith)) (next 47 (piece-behind M S 47 _ _ (omega arith) refl) none))

  put-alike : (o : Block) → L (slot_put M S a n q o) (slot_put M S a' n q' o)
  put-alike closed = refused refl
  put-alike (listing zero) = refused refl
  put-alike (listing (suc p)) = accepted refl r none
  put-alike (reading s j i) = refused refl
  put-alike (writing s ub) = refused refl

  fetch-alike : is_sector M S q.position ≡ is_sector M S p' → L (fetched M S a n q) (fetched M S a' n q')
  unfolding fetched
  fetch-alike j =
      like-pick M S (is_sector M S q.position) _ _ _ _ _ j
      (λ _. accepted refl r (next 64 (piece-buffer M S _ _ (length_part _ _ 256 ∙ sym (length_part _ _ 256))) none)) (refused refl)

  delete-alike : L (deleted M S a n q) (deleted M S a' n q')
  unfolding deleted
  delete-alike =
      like-pick M S (legal q.name 0) _ _ _ _ _ refl
      (λ _. like-sought M S (file_named q.name a.slots) _ _ _ _ _ (named-alike q.name) (refused refl)
      (λ s.
      let l = r.files s in
      like-pick M S (busy true s a.blocks 8) _ _ _ _ _ (busy-alike true s) (λ _. refused refl)
      (like-pick M S (delete_protected (attributes a s)) _ _ _ _ _ (ap delete_protected (mode-alike s)) (λ _. refused refl)
      (like-pick M S (write_protected (attributes a s)) _ _ _ _ _ (ap write_protected (mode-alike s)) (λ _. refused refl)
      (accepted refl
      (alike-free M S a a' r _ _ _ _ s _ _ n (block a n) _
      (length-append a.free (file a s).secs ∙ (λ i. r.free i + l.size i) ∙ sym (length-append a'.free (file a' s).secs))
      (each_append (InData M S) a.free (file a s).secs r.frees l.secs) (each_append (InData M S) a'.free (file a' s).secs r.frees' l.secs')
      (like-mark M S (file a s) (file a' s) l) (λ b. long-mark (file a s) (file a' s) (r.long s b)) block-alike)
      (next 4 (marked-alike M S a a' r s) none))))))
      (refused refl)

  rename-alike : length q.rename ≡ 11 → L (renamed M S a n q) (renamed M S a' n q')
  unfolding renamed
  rename-alike lr =
      like-pick M S (legal q.name 0) _ _ _ _ _ refl
      (λ _. like-pick M S (legal q.rename 0) _ _ _ _ _ refl
      (λ _. like-sought M S (file_named q.name a.slots) _ _ _ _ _ (named-alike q.name) (refused refl)
      (λ s. like-pick M S (busy true s a.blocks 8) _ _ _ _ _ (busy-alike true s) (λ _. refused refl)
      (like-pick M S (write_protected (attributes a s)) _ _ _ _ _ (ap write_protected (mode-alike s)) (λ _. refused refl)
      (like-sought M S (file_named q.rename a.slots) _ _ _ _ _ (named-alike q.rename)
      (accepted refl
      (alike-file M S a a' r s _ _ n (block a n) _ (like-name M S (file a s) (file a' s) (r.files s) q.rename) (λ b. long-name (file a s) (file a' s) (r.long s b) q.rename lr) block-alike)
      (next 4 (piece-before M S 4 q.rename (omega arith)) none))
      (λ t. refused refl)))))
      (refused refl))
      (refused refl)

  -- a call
  called-alike : length q.name ≡ 11 → length q.rename ≡ 11 → length q.date ≡ 3 → is_sector M S q.position ≡ is_sector M S p'
      → L (called M S a n q) (called M S a' n q')
  unfolding called performed
  called-alike ln lr ld j =
      let c = q.code in
      let e = block-alike in
      like-pick M S (served c) _ _ _ _ _ refl
      (λ _. like-pick M S (eqb q.drive 0) _ _ _ _ _ refl
      (λ _. like-pick M S (fits c (activity (block a n))) _ _ _ _ _ (ap (λ (o : Block). fits c (activity o)) e)
      (λ _. like-pick M S (eqb c 0) _ _ _ _ _ refl (λ _. subst (λ (o : Block). L (transferred M S a n q (block a n)) (transferred M S a' n q' o)) e (transfer-alike (block a n)))
      (like-pick M S (eqb c 1) _ _ _ _ _ refl (λ _. open-read-alike)
      (like-pick M S (eqb c 2) _ _ _ _ _ refl (λ _. open-write-alike ln ld)
      (like-pick M S (eqb c 4) _ _ _ _ _ refl (λ _. subst (λ (o : Block). L (shut_block M S a n q (block a n)) (shut_block M S a' n q' o)) e (shut-alike (block a n)))
      (like-pick M S (eqb c 5) _ _ _ _ _ refl (λ _. subst (λ (o : Block). L (rewound M S a n q (block a n)) (rewound M S a' n q' o)) e (rewind-alike (block a n)))
      (like-pick M S (eqb c 6) _ _ _ _ _ refl (λ _. directory-alike)
      (like-pick M S (eqb c 7) _ _ _ _ _ refl (λ _. subst (λ (o : Block). L (shown_next M S a n q (block a n)) (shown_next M S a' n q' o)) e (list-alike (block a n)))
      (like-pick M S (eqb c 8) _ _ _ _ _ refl (λ _. subst (λ (o : Block). L (slot_put M S a n q (block a n)) (slot_put M S a' n q' o)) e (put-alike (block a n)))
      (like-pick M S (eqb c 9) _ _ _ _ _ refl (λ _. fetch-alike j)
      (like-pick M S (eqb c 10) _ _ _ _ _ refl (λ _. like-pick M S (is_sector M S q.position) _ _ _ _ _ j (λ _. accepted refl r none) (refused refl))
      (like-pick M S (eqb c 12) _ _ _ _ _ refl (λ _. delete-alike) (rename-alike lr))))))))))))
      (refused (ap (λ (o : Block). misfit c (activity o)) e)))
      (refused refl))
      (refused refl)

-- ---- over the log

-- a preset sets a byte
abbrev pub Byte : Call → Type 0
Byte (setting n i v) = v < 256
Byte (extending n c) = Unit {0}
Byte (asking n b) = Unit {0}

abbrev Sames : ℕ → ℕ → List Put → Type 0
Sames M S ps = LikePuts M S ps ps

preset-sames : (M S : ℕ) (m : List ℕ) (i v : ℕ) → v < 256 → Sames M S (puts_of (preset_in m 0 i v))
unfolding preset_in one
preset-sames M S m i v h =
    let p : Sames M S (put i (one v) ∷ []) = next i (piece-same M S i (one v) (one v) refl (λ j b d. go j b)) none in
    pick-cases (λ (e : Effect). Sames M S (puts_of e)) (eqb i 0) _ _ (λ _. p)
    (λ _. pick-cases (λ (e : Effect). Sames M S (puts_of e)) (presettable i) _ _
    (λ _. pick-cases (λ (e : Effect). Sames M S (puts_of e)) (idle (activity_in m 0)) _ _ (λ _. p) (λ _. none)) (λ _. none))
  where
    go : (j : ℕ) → j < 1 → get_or (v ∷ []) j 0 < 256
    go zero b = h
    go (suc j) b = absurd (omega arith)

extension-sames : (M S : ℕ) (m : List ℕ) (c : ℕ) → Sames M S (puts_of (extension_in m 0 c))
unfolding extension_in
extension-sames M S m c =
    pick-cases (λ (e : Effect). Sames M S (puts_of e)) (idle (activity_in m 0)) _ _
    (λ _. pick-cases (λ (e : Effect). Sames M S (puts_of e)) (eqb (get_or m 12 0) 0) _ _
    (λ _. pick-cases (λ (e : Effect). Sames M S (puts_of e)) (ltb c 12) _ _
    (λ h. next 12 (piece-before M S 12 _ (omega (arith, extension-length c (ltb-true c 12 h)))) none) (λ _. none)) (λ _. none)) (λ _. none)

module _ (M S : ℕ) (z : Shape M S) (a a' : Ledger) (r : Alike M S a a') where
  edits-alike : (e e' : Effect) → e ≡ e' → Sames M S (puts_of e) → LikeFate M S (edits a e) (edits a' e')
  edits-alike e e' h p =
      subst (λ (x : Effect). LikeFate M S (edits a e) (edits a' x)) h
      (like-pick M S (eqb (answer e) 0) _ _ _ _ _ refl (λ _. accepted refl r p) (refused refl))

  asks-alike : (n b : ℕ) → LikeFate M S (called M S a n (asks a n b)) (called M S a' n (asks a' n b))
  asks-alike n b =
      let l = r.fcbs n in
      let m = fcb a n in
      let m' = fcb a' n in
      let c = low_read M S m m' l 0 (omega arith) in
      let d = low_read M S m m' l 3 (omega arith) in
      let nm = name-read M S m m' l in
      let rn = rename-read M S m m' l in
      let dt = date-read M S m m' l in
      subst (λ (x : Request). LikeFate M S (called M S a n (asks a n b)) (called M S a' n x))
      (λ i. record { code = c i; drive = d i; name = nm i; rename = rn i; date = dt i; position = word_at m' 30; byte = b })
      (called-alike M S z a a' r n (asks a n b) (word_at m' 30) (length_part m 4 11) (length_part m 53 11) (length_part m 25 3) (position-read M S m m' l z))

  -- THE FATE of a call: the same answer, the same byte, ledgers alike
  pub fate-alike : (c : Call) → Byte c → LikeFate M S (fate M S a c) (fate M S a' c)
  unfolding fate
  fate-alike (setting n i v) h =
      like-pick M S (ltb n 8) _ _ _ _ _ refl
      (λ _. edits-alike (preset_in (fcb a n) 0 i v) (preset_in (fcb a' n) 0 i v) (preset-read M S (fcb a n) (fcb a' n) (r.fcbs n) i v)
      (preset-sames M S (fcb a n) i v h)) (refused refl)
  fate-alike (extending n c) h =
      like-pick M S (ltb n 8) _ _ _ _ _ refl
      (λ _. edits-alike (extension_in (fcb a n) 0 c) (extension_in (fcb a' n) 0 c) (extension-read M S (fcb a n) (fcb a' n) (r.fcbs n) c)
      (extension-sames M S (fcb a n) c)) (refused refl)
  fate-alike (asking n b) h = like-pick M S (ltb n 8) _ _ _ _ _ refl (λ _. like-ended M S (asks-alike n b)) (refused refl)

  noted-alike : (c : Call) (e : ℕ) → Alike M S (noted a c e) (noted a' c e)
  noted-alike (setting n i v) e = r
  noted-alike (extending n c) e = r
  noted-alike (asking n b) e = alike-puts M S a a' r n _ _ (next 1 (piece-one M S 1 e (omega arith)) none)

  pub then-alike : (e : Entry) → Byte e.made → Alike M S (then M S a e) (then M S a' e)
  unfolding then
  then-alike e h = go (eqb e.ans 0)
    where
      go : (u : Bool) → Alike M S (pick u (after a (block_of e.made) (fate M S a e.made)) (noted a e.made e.ans)) (pick u (after a' (block_of e.made) (fate M S a' e.made)) (noted a' e.made e.ans))
      go true = like-after M S (block_of e.made) a a' r (fate-alike e.made h)
      go false = noted-alike e.made e.ans

-- every preset of the log sets a byte
abbrev pub Bytes : List Entry → Type 0
Bytes es = Each (λ (e : Entry). Byte e.made) es

bytes-log : (σ : Service) (cs : List Call) (x : Machine) → Each Byte cs → Bytes (log σ x cs)
unfolding log entry
bytes-log σ [] x h = tt
bytes-log σ (c ∷ cs) x h = (h.0, bytes-log σ cs (after_call σ x c) h.1)

module _ (M S : ℕ) (z : Shape M S) where
  -- THE HISTORIES are alike again
  pub history-alike : (es : List Entry) → Bytes es → (a a' : Ledger) → Alike M S a a' → Alike M S (history M S a es) (history M S a' es)
  unfolding history
  history-alike [] h a a' r = r
  history-alike (e ∷ es) h a a' r = history-alike es h.1 (then M S a e) (then M S a' e) (then-alike M S z a a' r e h.0)

  -- WHAT THEY SHOW is the same
  pub shown-only : (es : List Entry) → Bytes es → (a a' : Ledger) → Alike M S a a' → shown (history M S a es) ≡ shown (history M S a' es)
  shown-only es h a a' r = shown-alike M S (history M S a es) (history M S a' es) (history-alike es h a a' r)

  -- WHAT THEY PREDICT is the same: a log that is as the one says is as the other says
  pub told-only : (es : List Entry) → Bytes es → (a a' : Ledger) → Alike M S a a'
      → (Told (scenes M S a es) → Told (scenes M S a' es)) × (Told (scenes M S a' es) → Told (scenes M S a es))
  unfolding scenes
  told-only [] h a a' r = ((λ t. t), (λ t. t))
  told-only (e ∷ es) h a a' r =
      let l = fate-alike M S z a a' r e.made h.0 in
      let u = told-only es h.1 (then M S a e) (then M S a' e) (then-alike M S z a a' r e h.0) in (
        (λ t. (t.0 ∙ like-reply M S l, t.1 ∙ like-gives M S l, u.0 t.2)),
        (λ t. (t.0 ∙ sym (like-reply M S l), t.1 ∙ sym (like-gives M S l), u.1 t.2)),
      )

  -- and so two logs of the same calls, each as predicted, are the same: every answer, every byte
  pub log-only : (σ : Service) (cs : List Call) → Each Byte cs → (x x' : Machine) (a a' : Ledger) → Alike M S a a' → Told (scenes M S a (log σ x cs))
      → Told (scenes M S a' (log σ x' cs)) → log σ x cs ≡ log σ x' cs
  unfolding log scenes entry
  log-only σ [] h x x' a a' r t t' = refl
  log-only σ (c ∷ cs) h x x' a a' r t t' =
      let l = fate-alike M S z a a' r c h.0 in
      let p : answers σ x c ≡ answers σ x' c = t.0 ∙ like-reply M S l ∙ sym t'.0 in
      let q : gave σ x c ≡ gave σ x' c = t.1 ∙ like-gives M S l ∙ sym t'.1 in
      let e : entry σ x c ≡ entry σ x' c = λ i. record { made = c; ans = p i; back = q i } in
      let u = log-only σ cs h.1 (after_call σ x c) (after_call σ x' c) (then M S a (entry σ x c)) (then M S a' (entry σ x c)) (then-alike M S z a a' r (entry σ x c) h.0) t.2
      (subst (λ (y : Entry). Told (scenes M S (then M S a' y) (log σ (after_call σ x' c) cs))) (sym e) t'.2) in
      λ i. e i ∷ u i

-- ---- two diskettes with the same files, however their sectors lie

-- what the ledger of a start says of sectors and lengths
record Sited (M S : ℕ) (a : Ledger) : Type 0 where
  frees : Each (InData M S) a.free
  secs : (s : ℕ) → s < length a.slots → Each (InData M S) (file a s).secs
  long : (s : ℕ) → s < length a.slots → Long (file a s) (file a s)
  size : (s : ℕ) → s < length a.slots → length (file a s).body ≡ length (file a s).secs

sited : (M S : ℕ) → Shape M S → (img tab : List ℕ) (a : Ledger) → Agrees M S img tab a → Sited M S a
sited M S z img tab a r = record {
  frees = all-each (InData M S) a.free (free-data M S z img tab a r);
  secs = λ s h. all-each (InData M S) (file a s).secs (secs-data M S z img tab a r s (omega (arith, r.ns)));
  long = λ s h.
      let g = r.holds s (omega (arith, r.ns)) in
      record {
        name = ap length (sym g.name) ∙ length_part _ _ 11;
        mode = ap length (sym g.mode) ∙ length_part _ _ 2;
        ends = ap length (sym g.ends) ∙ length_part _ _ 6;
        ends' = ap length (sym g.ends) ∙ length_part _ _ 6;
        map = ap length (sym g.map) ∙ length_part _ _ 1;
        date = ap length (sym g.date) ∙ length_part _ _ 4;
      };
  size = λ s h. ap length (r.holds s (omega (arith, r.ns))).body ∙ length-pieces 4 252 img (file a s).secs;
}

-- of the same shape, as many free sectors, the same slots, the same table of bytes
pub record Twins (x x' : Machine) : Type 0 where
  pub tracks : last_track_of x ≡ last_track_of x'
  pub sectors : per_track_of x ≡ per_track_of x'
  pub free : length (begun x).free ≡ length (begun x').free
  pub count : length (begun x).slots ≡ length (begun x').slots
  pub files : (s : ℕ) → s < length (begun x).slots → Twin (file (begun x) s) (file (begun x') s)
  pub table : x.tab ≡ x'.tab
  pub bytes : Small x.tab

small-forms : (tab : List ℕ) → Small tab → (f c n : ℕ) → Small (get_or (fcbs_from tab f c) n [])
unfolding fcbs_from
small-forms tab h f zero n = small-nil
small-forms tab h f (suc c) zero = small-part tab f 320 h
small-forms tab h f (suc c) (suc n) = small-forms tab h (f + 320) c n

form-self : (M S : ℕ) (m : List ℕ) → Small m → LikeForm M S m m
form-self M S m h = record { long = refl; bytes = λ i. same refl (λ e. h.at i) }

sited-alike : (M S : ℕ) (a a' : Ledger) → Sited M S a → Sited M S a' → length a.free ≡ length a'.free → length a.slots ≡ length a'.slots
    → ((s : ℕ) → s < length a.slots → Twin (file a s) (file a' s)) → a.blocks ≡ a'.blocks → a.fcbs ≡ a'.fcbs
    → ((n : ℕ) → Small (fcb a n)) → Alike M S a a'
sited-alike M S a a' g g' fr c t b e sm = record {
  free = fr;
  frees = g.frees;
  frees' = g'.frees;
  count = c;
  files = λ s. by-slot (LikeFile M S) a.slots a'.slots c s
      (record { twin = record { name = refl; mode = refl; map = refl; date = refl; recs = refl; body = refl }; size = refl; secs = tt; secs' = tt })
      (λ h. record {
        twin = t s h;
        size = sym (g.size s h) ∙ ap length (t s h).body ∙ g'.size s (omega arith);
        secs = g.secs s h;
        secs' = g'.secs s (omega arith);
      });
  long = λ s h.
      let l = g.long s h in
      record { name = l.name; mode = l.mode; ends = l.ends; ends' = (g'.long s (omega arith)).ends; map = l.map; date = l.date };
  blocks = b;
  number = ap length e;
  fcbs = λ n. subst (λ (m : List ℕ). LikeForm M S (fcb a n) m) (ap (λ (l : List (List ℕ)). get_or l n []) e) (form-self M S (fcb a n) (sm n));
}

module _ (x x' : Machine) (s : Start x) (s' : Start x') (t : Twins x x') where
  abbrev M : ℕ
  M = last_track_of x

  abbrev S : ℕ
  S = per_track_of x

  -- their ledgers are alike
  pub starts-alike : Alike M S (begun x) (begun x')
  unfolding ledger_of
  starts-alike =
      let g' = sited (last_track_of x') (per_track_of x') (start-shape x' s') x'.img x'.tab (begun x') (start_fine x' s').agrees in
      sited-alike M S (begun x) (begun x') (sited M S (start-shape x s) x.img x.tab (begun x) (start_fine x s).agrees)
      (subst (λ (m : ℕ). Sited m S (begun x')) (sym t.tracks) (subst (λ (p : ℕ). Sited (last_track_of x') p (begun x')) (sym t.sectors) g')) t.free t.count t.files refl
      (ap (λ (m : List ℕ). fcbs_from m 0 8) t.table) (λ n. small-forms x.tab t.bytes 0 8 n)

  -- any service that meets demand 3 answers every list of calls that is plain on both alike, with the same bytes, and leaves the same files
  module _ (σ : Service) (d : Demand3 σ) (cs : List Call) (h : Each Byte cs) (p : Plain (past σ x cs)) (p' : Plain (past σ x' cs)) where
    pub twins-log : log σ x cs ≡ log σ x' cs
    twins-log =
        log-only M S (start-shape x s) σ cs h x x' (begun x) (begun x') starts-alike (d x s cs p).answered
        (subst (λ (m : ℕ). Told (scenes m S (begun x') (log σ x' cs))) (sym t.tracks)
        (subst (λ (p : ℕ). Told (scenes (last_track_of x') p (begun x') (log σ x' cs))) (sym t.sectors) (d x' s' cs p').answered))

    pub twins-files : files_on M S (run σ x cs).img (run σ x cs).tab ≡ files_on (last_track_of x') (per_track_of x') (run σ x' cs).img (run σ x' cs).tab
    twins-files =
        (d x s cs p).files
        ∙ shown-only M S (start-shape x s) (log σ x cs) (bytes-log σ cs x h) (begun x) (begun x') starts-alike
        ∙ (λ i. shown (history (t.tracks i) (t.sectors i) (begun x') (twins-log i)))
        ∙ sym (d x' s' cs p').files
