-- Functions 6 to 10: open directory, next slot, put slot, read sector, write sector.
use Rattle.std.specs.Prelude.{◌≡◌, Bool, ltb, Result, Ok, Err}
use Rattle.std.proofs.Math.Path.{refl, ap, ap₂, subst}
use Rattle.std.proofs.Common.{sym, ◌∙◌, arith}
use Rattle.std.proofs.Math.Bool.{true, false}
use mathlib.Core.List.{List, [], ◌∷◌}
use Prim.Native.Nat.{ℕ, zero, suc, ◌+◌, ◌*◌, ◌/◌, ◌%◌, ◌<◌}
use Rattle.std.proofs.Math.Decide.{dec_lt}
use Rattle.std.proofs.Math.ListN.{length, get_or}
use borrow.Author.Tests.{lt-ltb, le-ltb}
use Rattle.rules.specs.Bytes.{pick, word_at, part, one, zeros, same, two}
use Rattle.rules.specs.Stores.{store, Put, put, puts}
use Rattle.rules.specs.Image.{index, is_sector}
use Rattle.rules.specs.Directory.{slots_of, place_of}
use Rattle.rules.specs.Outcome.{on_slot, done}
use Rattle.rules.specs.Block.{function_in, place_in}
use Rattle.rules.specs.Transfer.{slot_in}
use Rattle.rules.specs.Files.{open_directory, shown, next_slot, put_slot, read_sector, write_sector}
use Rattle.rules.specs.declared.NoSlot.{NoSlot}
use Rattle.rules.specs.declared.NoSlot.TheVariants.{Missing, Broken}
use Rattle.laws.specs.Bytes.{part-is, length_part, length-zeros, same_refl, same-eq}
use Rattle.laws.specs.Addresses.{Shape}
use Rattle.chains.specs.Chain.{first-get_or}
use Rattle.laws.specs.Slots.{length-slots, placed-is}
use Rattle.laws.proofs.Slots.{slot_is}
use Rattle.chains.specs.Addresses.{absurd-bool}
use Rattle.chains.specs.Directory.{directory-is, slot_at, spot, spot-sector, placed-spot, behind}
use Rattle.laws.specs.Stores.{puts-off, puts-at}
use Rattle.demands.specs.Ledger.{writes_raw, Block, closed, listing, Ledger, Request, Fate, denied, granted, set_block, entry_of, directory_opened, shown_next, slot_put, fetched, sector_put, request, file}
use Rattle.met.specs.Relation.{tb, opens, Listed, Keeps, Agrees, tp-same}
use Rattle.met.specs.Quiet.{turned, shut-block, idle-quiet}
use Rattle.met.specs.Meets.{Meets, meets-unless}
use Rattle.met.specs.Picture.{entry-is, image-is}

module _ (M S : ℕ) (z : Shape M S) (img tab : List ℕ) (a : Ledger) (r : Agrees M S img tab a) (n : ℕ) (hn : n < 8) where
  in_table : (k : ℕ) → k < 320 → 320 * n + k < length tab
  in_table k h = omega (arith, r.tlen)

  -- ---- 6
  abbrev ps : List Put
  ps = put 2 (one 16) ∷ put 47 (zeros 3) ∷ []

  pub open-directory-meets : (q : Request) → Meets M S img tab n open_directory (directory_opened M S a n q)
  unfolding open_directory one
  open-directory-meets q = (
    refl,
    refl,
    omega (arith, length-zeros 3),
    λ plain. shut-block M S z img tab a r n hn (puts tab (320 * n) ps) (listing 0) (turned tab n ps (omega (arith, length-zeros 3))) refl refl
        (record {
          act = puts-at ps tab (320 * n) 0 0 (320 * n + 2) (omega arith) (omega arith) (omega arith) (in_table 2 (omega arith)) (omega arith);
          shown = omega arith;
          place = part-is (puts tab (320 * n) ps) (320 * n + 47) 3 (zeros 3) (length-zeros 3)
              (λ i b. ap (λ (p : ℕ). get_or (puts tab (320 * n) ps) p 0) (omega arith) ∙ puts-at ps tab (320 * n) 1 i (320 * n + (47 + i)) (omega arith) (omega (arith, length-zeros 3)) (omega arith) (in_table (47 + i) (omega arith)) tt);
        }),
  )

  -- ---- 7: slot p is shown
  abbrev showing : ℕ → Fate
  showing p = granted 0 (set_block a n (listing (suc p))) (put 47 (place_of S (file a p).at) ∷ put 4 (entry_of (file a p)) ∷ [])

  module _ (p : ℕ) (act : tb tab n 2 ≡ 16) (hp : p < length (slots_of a.dir)) where
    abbrev o : ℕ
    o = get_or (slots_of a.dir) p 0

    abbrev qs : List Put
    qs = put 47 (place_of S o) ∷ put 4 (part img o 24) ∷ []

    show-meets : Meets M S img tab n (shown img S o) (showing p)
    unfolding shown place_of two one
    show-meets = (
      refl,
      ap₂ (λ (x : ℕ) (y : List ℕ). put 47 (place_of S x) ∷ put 4 y ∷ []) (sym (r.holds p hp).at) (entry-is M S z img tab a r p hp),
      omega (arith, length_part img o 24),
      λ plain. shut-block M S z img tab a r n hn (puts tab (320 * n) qs) (listing (suc p)) (turned tab n qs (omega (arith, length_part img o 24))) refl refl
          (record {
            act = puts-off qs tab (320 * n) (320 * n + 2) (omega (arith, length_part img o 24)) ∙ act;
            shown = omega arith;
            place = part-is (puts tab (320 * n) qs) (320 * n + 47) 3 (place_of S o) refl
                (λ i b. ap (λ (x : ℕ). get_or (puts tab (320 * n) qs) x 0) (omega arith) ∙ puts-at qs tab (320 * n) 0 i (320 * n + (47 + i)) (omega arith) b (omega arith) (in_table (47 + i) (omega arith)) (omega (arith, length_part img o 24)));
          }),
    )

  -- the first slot, and a first there is
  first_slot : get_or (slots_of a.dir) 0 0 ≡ 1040
  first_slot = slot_at a.dir 0 0 r.listing.some (omega arith) ∙ omega (arith, r.listing.head, first-get_or a.dir)

  some-slots : 0 < length (slots_of a.dir)
  some-slots = omega (arith, length-slots a.dir, r.listing.some)

  -- a slot's place is not 0,0,0
  not-zero : (s : ℕ) → s < length (slots_of a.dir) → same (place_of S (get_or (slots_of a.dir) s 0)) (zeros 3) ≡ false
  unfolding place_of two one zeros
  not-zero s hs = go (same (place_of S (get_or (slots_of a.dir) s 0)) (zeros 3)) refl
    where
      go : (b : Bool) → same (place_of S (get_or (slots_of a.dir) s 0)) (zeros 3) ≡ b → b ≡ false
      go false e = refl
      go true e =
          let w = spot M S a.dir r.listing s hs in
          let q : get_or (slots_of a.dir) s 0 % 256 ≡ 0 =
          ap (λ (l : List ℕ). get_or l 2 0) (same-eq (place_of S (get_or (slots_of a.dir) s 0)) (zeros 3) e) in
          absurd (omega (arith, q, (spot-sector M S a.dir s (get_or (slots_of a.dir) s 0) w).1))

  pub next-slot-meets : (q : Request) (p : ℕ) → get_or a.blocks n closed ≡ listing p
      → Meets M S img tab n (next_slot img tab M S (320 * n)) (shown_next M S a n q (listing p))
  unfolding next_slot
  next-slot-meets q zero e =
      let k : Listed S (slots_of a.dir) tab n 0 = subst (λ (b : Block). Keeps S (slots_of a.dir) tab n a.slots b) e (r.keeps n hn) in
      rw (k.place, same_refl (zeros 3), (directory-is M S z img a.dir r.listing r.dir).0, lt-ltb 0 (length a.slots) (omega (arith, r.ns, some-slots)))
      (subst (λ (x : ℕ). Meets M S img tab n (shown img S x) (showing 0)) first_slot (show-meets 0 k.act some-slots))
  next-slot-meets q (suc s) e =
      let k : Listed S (slots_of a.dir) tab n (suc s) = subst (λ (b : Block). Keeps S (slots_of a.dir) tab n a.slots b) e (r.keeps n hn) in
      let hs : s < length (slots_of a.dir) = omega (arith, k.shown) in
      let pl = placed-spot M S z a.dir r.listing img r.dir s (get_or (slots_of a.dir) s 0) (spot M S a.dir r.listing s hs) in
      let ds = (directory-is M S z img a.dir r.listing r.dir).1 in
      rw (k.place, not-zero s hs, pl, ds, behind M S z a.dir r.listing s hs) (go k (dec_lt (s + 1) (length (slots_of a.dir))))
    where
      go : Listed S (slots_of a.dir) tab n (suc s) → Dec (s + 1 < length (slots_of a.dir))
          → Meets M S img tab n (on_slot (pick (ltb (s + 1) (length (slots_of a.dir))) (Ok (get_or (slots_of a.dir) (s + 1) 0)) (Err Missing)) 5 8 (λ next. shown img S next))
          (pick (ltb (suc s) (length a.slots)) (showing (suc s)) (denied 8))
      go k (yes h) =
          rw (lt-ltb (s + 1) (length (slots_of a.dir)) h, lt-ltb (suc s) (length a.slots) (omega (arith, r.ns)))
          (subst (λ (x : ℕ). Meets M S img tab n (shown img S (get_or (slots_of a.dir) x 0)) (showing (suc s))) (omega arith) (show-meets (suc s) k.act (omega arith)))
      go k (no h) =
          rw (le-ltb (s + 1) (length (slots_of a.dir)) (omega arith), le-ltb (suc s) (length a.slots) (omega (arith, r.ns))) (refl, omega arith)

  -- ---- 9
  pub read-sector-meets : (b : ℕ) → opens (get_or a.blocks n closed) ≡ 0
      → Meets M S img tab n (read_sector img tab M S (320 * n)) (fetched M S a n (request tab (320 * n) b))
  unfolding read_sector fetched
  read-sector-meets b oz =
      let v = part img (256 * index S (word_at tab (320 * n + 30))) 256 in
      let lv : length v ≡ 256 = length_part img (256 * index S (word_at tab (320 * n + 30))) 256 in
      let ts = put 64 v ∷ [] in
      meets-unless M S img tab n _ (is_sector M S (word_at tab (320 * n + 30))) 9 _ _ refl (omega arith)
      (λ h. (
        refl,
        ap (λ (m : List ℕ). put 64 (part m (256 * index S (word_at tab (320 * n + 30))) 256) ∷ []) (image-is M S z img tab a r),
        omega (arith, lv),
        λ plain. idle-quiet M S z img tab a r n hn (puts tab (320 * n) ts) (turned tab n ts (omega (arith, lv))) oz (puts-off ts tab (320 * n) (320 * n + 2) (omega (arith, lv)))
            (tp-same tab (puts tab (320 * n) ts) n (λ i h. puts-off ts tab (320 * n) (320 * n + i) (omega (arith, lv, h)))),
      ))

  -- ---- 8 and 10: raw writing, which leaves what agrees with no ledger
  module _ (raw : writes_raw (function_in tab (320 * n)) ≡ true) where
    pub put-slot-meets : (q : Request) (p : ℕ) → get_or a.blocks n closed ≡ listing p
        → Meets M S img tab n (put_slot img tab M S (320 * n)) (slot_put M S a n q (listing p))
    unfolding put_slot place_of two one zeros
    put-slot-meets q zero e = go (slot_in img tab M S (320 * n)) refl
      where
        k : Listed S (slots_of a.dir) tab n 0
        k = subst (λ (b : Block). Keeps S (slots_of a.dir) tab n a.slots b) e (r.keeps n hn)

        -- place 0,0,0 is no slot's
        nobody : (o : ℕ) → slot_in img tab M S (320 * n) ≡ Ok o → ⊥
        nobody o h =
            let p = placed-is img M S (place_in tab (320 * n)) o h in
            let d : o % 256 ≡ 0 = ap (λ (l : List ℕ). get_or l 2 0) (p.1 ∙ k.place) in
            omega (arith, d, (slot_is img M S z.sectors o p.0.one_of).low)

        go : (l : Result ℕ NoSlot) → slot_in img tab M S (320 * n) ≡ l
            → Meets M S img tab n (on_slot l 5 5 (λ slot. done 0 (store (slot / 256) (slot % 256) (part tab (320 * n + 4) 24) ∷ []) [])) (denied 5)
        go (Ok o) h = absurd (nobody o h)
        go (Err Missing) h = (refl, omega arith)
        go (Err Broken) h = (refl, omega arith)
    put-slot-meets q (suc s) e =
        let k : Listed S (slots_of a.dir) tab n (suc s) = subst (λ (b : Block). Keeps S (slots_of a.dir) tab n a.slots b) e (r.keeps n hn) in
        let w = spot M S a.dir r.listing s (omega (arith, k.shown)) in
        rw (k.place, placed-spot M S z a.dir r.listing img r.dir s (get_or (slots_of a.dir) s 0) w) (refl, refl, tt, λ plain. absurd (absurd-bool raw plain))

    pub write-sector-meets : (q : Request) → q.position ≡ word_at tab (320 * n + 30) → Meets M S img tab n (write_sector img tab M S (320 * n)) (sector_put M S a n q)
    unfolding write_sector
    write-sector-meets q e =
        meets-unless M S img tab n _ (is_sector M S q.position) 10 _ _ (ap (is_sector M S) (sym e)) (omega arith) (λ h. (refl, refl, tt, λ plain. absurd (absurd-bool raw plain)))
