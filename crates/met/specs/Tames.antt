-- Each function puts only into the bytes of its block that it names: `Tamed`, of every outcome.
use Rattle.std.specs.Prelude.{◌≡◌, ◌≢◌, ℕ, ◌+◌, ◌%◌, ◌≤◌, ◌<◌, length, eqb, ltb}
use Rattle.std.proofs.Math.Path.{refl, subst}
use Rattle.std.proofs.Common.{sym, arith, eqb-true}
use Rattle.std.proofs.Math.Bool.{true, false}
use mathlib.Core.List.{List, [], ◌∷◌}
use Rattle.std.proofs.lemmas.Bool.{eqb-false}
use Rattle.rules.specs.Bytes.{pick, within, part, one, two, six, zeros, same}
use Rattle.rules.specs.Stores.{Store, Put, put}
use Rattle.rules.specs.Image.{last_track, per_track, shape_right, is_sector, is_data, first_free, last_free, free_count}
use Rattle.rules.specs.Names.{legal}
use Rattle.rules.specs.Directory.{first_of_directory, most_of_directory, first_slot_of, member, place_of, slot_behind, directory_right, directory, slots, find, vacancy, attributes_at, start_at, end_at, size_at}
use Rattle.rules.specs.Outcome.{Outcome, done}
use Rattle.rules.specs.Block.{name_field, index_field, new_name_field, buffer_field, function_in, activity_in, drive_in, size_in, position_in, index_in, name_in, new_name_in, place_in, in_use}
use Rattle.rules.specs.Transfer.{next_to_read, load_puts, load, reading, slot_in, fresh, take_puts, take_for, take_sector, sent, fill, writing, transfer, shut, mark, close_writing, close}
use Rattle.rules.specs.Files.{opened, open_read, new_entry, grow, open_write, rewind, open_directory, shown, next_slot, put_slot, read_sector, write_sector, write_protected, delete_protected, read_protected, gone, remove, delete, rename}
use Rattle.rules.specs.Call.{served, fits, checked, perform, asked}
use Rattle.laws.specs.Tests.{either, within-is, pick_all, pick-cases}
use Rattle.laws.specs.Bytes.{length-one}
use Rattle.laws.specs.Each.{Each}
use Rattle.laws.specs.Fair.{on_slot-all, on_none-all, or_else-all}
use Rattle.demands.specs.Demands.{names, looks}
use Rattle.met.specs.Bounds.{touches, spans, Touched, spans-at, lands, lands-each, Tamed, tame-still, tame-done, tame-then}

-- of the codes that are served, 13 is the one that is left
above : (m c : ℕ) → m ≤ c → c ≢ m → m + 1 ≤ c
above m c h n = omega arith

beyond : {A : Type 0} (m c : ℕ) → m + 1 ≤ c → c ≤ m → A
beyond m c h k = absurd (omega arith)

pub last_code : (c : ℕ) → served c ≡ true → c ≢ 0 → c ≢ 1 → c ≢ 2 → c ≢ 4 → c ≢ 5 → c ≢ 6 → c ≢ 7 → c ≢ 8 → c ≢ 9 → c ≢ 10 → c ≢ 12 → c ≡ 13
unfolding served
last_code c h n0 n1 n2 n4 n5 n6 n7 n8 n9 n10 n12 =
    either (within 0 2 c) _ h
    (λ e. let w = within-is 0 2 c e in beyond 2 c (above 2 c (above 1 c (above 0 c w.0 n0) n1) n2) w.1)
    (λ k. either (within 4 10 c) _ k
    (λ e.
    let w = within-is 4 10 c e in
    beyond 10 c (above 10 c (above 9 c (above 8 c (above 7 c (above 6 c (above 5 c (above 4 c w.0 n4) n5) n6) n7) n8) n9) n10) w.1)
    (λ e. let w = within-is 12 13 c e in last (above 12 c w.0 n12) w.1))
  where
    last : 13 ≤ c → c ≤ 13 → c ≡ 13
    last a b = omega arith

module _ (img tab : List ℕ) (f b : ℕ) where
  abbrev M : ℕ
  M = last_track img

  abbrev S : ℕ
  S = per_track img

  abbrev T : ℕ → ℕ → Outcome → Type 0
  T code act o = Tamed tab code act o

  -- ---- 0, reading

  -- a byte is given
  given-tame : (c : ℕ) (ps : List Put) → lands 0 1 ps ≡ true → T 0 1 (done c [] ps)
  given-tame c ps h = record { byte = λ k. absurd (k refl refl); still = λ k. refl; block = λ s. lands-each 0 1 ps h }

  reading-tame : T 0 1 (reading img tab M S f)
  unfolding reading load load_puts lands spans touches names within part one two
  reading-tame =
      pick_all (T 0 1) (eqb (index_in tab f) 0) _ _
      (pick_all (T 0 1) (eqb (next_to_read tab f) 0) _ _ tt
      (pick_all (T 0 1) (is_data M S (next_to_read tab f)) _ _ (given-tame _ _ refl) tt))
      (given-tame _ _ refl)

  -- ---- 0, writing

  take-touched : (new start size : ℕ) → Each (Touched 0 2) (take_puts new start size)
  unfolding take_puts fresh zeros lands spans touches names within one two six
  take-touched new start size = lands-each 0 2 (take_puts new start size) refl

  sector-tame : T 0 2 (take_sector img tab M S f)
  unfolding take_sector take_for looks
  sector-tame =
      on_slot-all (T 0 2) (slot_in img tab M S f) 5 5 _ tt tt
      (λ slot e. pick_all (T 0 2) (pick (eqb (position_in tab f) 0) true (is_data M S (position_in tab f))) _ _
      (pick_all (T 0 2) (eqb (free_count img) 0) _ _ tt
      (pick_all (T 0 2) (is_data M S (first_free img)) _ _
      (pick_all (T 0 2) (eqb (size_in tab f) 65535) _ _ tt (tame-done tab 0 2 _ _ refl (λ s. take-touched _ _ _)))
      tt))
      tt)

  sent-touched : (i : ℕ) → i < 256 → Each (Touched 0 2) (sent i b)
  unfolding sent lands spans touches names within one
  sent-touched i h = (
    record { at = λ x k l. spans-at 0 2 buffer_field 256 x refl (omega arith) (omega (arith, length-one b)) },
    lands-each 0 2 (put index_field (one ((i + 1) % 256)) ∷ []) refl,
  )

  writing-tame : T 0 2 (writing img tab M S f b)
  unfolding writing fill looks
  writing-tame =
      pick_all (T 0 2) (eqb (index_in tab f) 0) _ _
      (tame-then tab 0 2 (take_sector img tab M S f) (sent 4 b) sector-tame (λ s. sent-touched 4 (omega arith)))
      (pick_all (T 0 2) (eqb (index_in tab f) 255) _ _
      (pick_all (T 0 2) (is_data M S (position_in tab f)) _ _ (tame-done tab 0 2 _ _ refl (λ s. sent-touched 255 (omega arith))) tt)
      (tame-done tab 0 2 [] _ refl (λ s. sent-touched (index_in tab f) (s.at (f + index_field)))))

  -- ---- 4 close

  shut-lands : (act : ℕ) → lands 4 act shut ≡ true
  unfolding shut lands spans touches names within one
  shut-lands act = refl

  close-writing-tame : T 4 2 (close_writing img tab M S f)
  unfolding close_writing looks
  close-writing-tame =
      pick_all (T 4 2) (eqb (position_in tab f) 0) _ _ (on_slot-all (T 4 2) (slot_in img tab M S f) 5 5 _ tt tt (λ slot e. stored-shut (mark slot)))
      (pick_all (T 4 2) (eqb (index_in tab f) 0) _ _ (tame-still tab 4 2 shut (shut-lands 2))
      (pick_all (T 4 2) (is_data M S (position_in tab f)) _ _ (stored-shut _) tt))
    where
      stored-shut : (ss : List Store) → T 4 2 (done 0 ss shut)
      stored-shut ss = tame-done tab 4 2 ss shut refl (λ s. lands-each 4 2 shut (shut-lands 2))

  -- ---- the functions, by the code that they have in `perform`

  act-is : activity_in tab f ≢ 1 → fits 0 (activity_in tab f) ≡ true → activity_in tab f ≡ 2
  unfolding fits
  act-is n h = omega (arith, within-is 1 2 (activity_in tab f) h)

  transfer-tame : fits 0 (activity_in tab f) ≡ true → T 0 (activity_in tab f) (transfer img tab M S f b)
  unfolding transfer
  transfer-tame h =
      pick-cases (T 0 (activity_in tab f)) (eqb (activity_in tab f) 1) _ _
      (λ e. subst (λ (a : ℕ). T 0 a (reading img tab M S f)) (sym (eqb-true (activity_in tab f) 1 e)) reading-tame)
      (λ e. subst (λ (a : ℕ). T 0 a (writing img tab M S f b)) (sym (act-is (eqb-false (activity_in tab f) 1 e) h)) writing-tame)

  close-tame : T 4 (activity_in tab f) (close img tab M S f)
  unfolding close
  close-tame =
      pick-cases (T 4 (activity_in tab f)) (eqb (activity_in tab f) 2) _ _
      (λ e. subst (λ (a : ℕ). T 4 a (close_writing img tab M S f)) (sym (eqb-true (activity_in tab f) 2 e)) close-writing-tame)
      (λ e. tame-still tab 4 (activity_in tab f) shut (shut-lands (activity_in tab f)))

  module _ (act : ℕ) where
    open-read-tame : T 1 act (open_read img tab M S f)
    unfolding open_read opened place_of lands spans touches names within member part zeros one two
    open-read-tame =
        pick_all (T 1 act) (legal tab (f + name_field)) _ _
        (on_slot-all (T 1 act) (find img M S (name_in tab f)) 5 4 _ tt tt
        (λ slot e. pick_all (T 1 act) (read_protected (attributes_at img slot)) _ _ tt
        (pick_all (T 1 act) (in_use false tab (place_of S slot)) _ _ tt (tame-still tab 1 act _ refl))))
        tt

    new-lands : (slot : ℕ) → lands 2 act (opened S 2 slot (new_entry tab f)) ≡ true
    unfolding opened place_of new_entry lands spans touches names within member part zeros one two
    new-lands slot = refl

    new-tame : (ss : List Store) (slot : ℕ) → T 2 act (done 0 ss (opened S 2 slot (new_entry tab f)))
    unfolding looks member
    new-tame ss slot = tame-done tab 2 act ss _ refl (λ s. lands-each 2 act (opened S 2 slot (new_entry tab f)) (new-lands slot))

    grow-tame : T 2 act (grow img tab M S f)
    unfolding grow
    grow-tame =
        pick_all (T 2 act) (eqb (free_count img) 0) _ _ tt
        (pick_all (T 2 act) (is_data M S (first_free img)) _ _
        (pick_all (T 2 act) (ltb (length (directory img M S)) (most_of_directory M S)) _ _ (new-tame _ _) tt)
        tt)

    open-write-tame : T 2 act (open_write img tab M S f)
    unfolding open_write
    open-write-tame =
        pick_all (T 2 act) (legal tab (f + name_field)) _ _
        (on_none-all (T 2 act) (find img M S (name_in tab f)) 5 3 _ tt tt
        (or_else-all (T 2 act) (vacancy img M S) 5 _ _ tt (λ e. grow-tame) (λ slot e. new-tame _ slot)))
        tt

    rewind-tame : T 5 act rewind
    unfolding rewind lands spans touches names within member one two
    rewind-tame = tame-still tab 5 act _ refl

    open-directory-tame : T 6 act open_directory
    unfolding open_directory lands spans touches names within member one zeros
    open-directory-tame = tame-still tab 6 act _ refl

    shown-tame : (slot : ℕ) → T 7 act (shown img S slot)
    unfolding shown place_of lands spans touches names within member part one two
    shown-tame slot = tame-still tab 7 act _ refl

    next-slot-tame : T 7 act (next_slot img tab M S f)
    unfolding next_slot
    next-slot-tame =
        pick_all (T 7 act) (same (place_in tab f) (zeros 3)) _ _
        (pick_all (T 7 act) (directory_right img M S) _ _ (shown-tame (first_slot_of first_of_directory)) tt)
        (on_slot-all (T 7 act) (slot_in img tab M S f) 5 5 _ tt tt
        (λ slot e. on_slot-all (T 7 act) (slot_behind slot (slots img M S)) 5 8 _ tt tt (λ next d. shown-tame next)))

    read-sector-tame : T 9 act (read_sector img tab M S f)
    unfolding read_sector lands spans touches names within part
    read-sector-tame = pick_all (T 9 act) (is_sector M S (position_in tab f)) _ _ (tame-still tab 9 act _ refl) tt

    -- what is written raw: a slot, a sector; the block is left
    put-slot-tame : T 8 act (put_slot img tab M S f)
    unfolding put_slot looks member
    put-slot-tame = on_slot-all (T 8 act) (slot_in img tab M S f) 5 5 _ tt tt (λ slot e. tame-done tab 8 act _ [] refl (λ s. tt))

    write-sector-tame : T 10 act (write_sector img tab M S f)
    unfolding write_sector looks member
    write-sector-tame = pick_all (T 10 act) (is_sector M S (position_in tab f)) _ _ (tame-done tab 10 act _ [] refl (λ s. tt)) tt

    gone-lands : (slot : ℕ) → lands 12 act (gone img slot) ≡ true
    unfolding gone lands spans touches names within part one
    gone-lands slot = refl

    removed-tame : (ss : List Store) (slot : ℕ) → T 12 act (done 0 ss (gone img slot))
    unfolding looks member
    removed-tame ss slot = tame-done tab 12 act ss (gone img slot) refl (λ s. lands-each 12 act (gone img slot) (gone-lands slot))

    remove-tame : (slot : ℕ) → T 12 act (remove img M S slot)
    unfolding remove
    remove-tame slot =
        pick_all (T 12 act) (eqb (size_at img slot) 0) _ _ (removed-tame _ slot)
        (pick_all (T 12 act) (is_data M S (start_at img slot)) _ _
        (pick_all (T 12 act) (is_data M S (end_at img slot)) _ _
        (pick_all (T 12 act) (pick (eqb (free_count img) 0) true (is_data M S (last_free img))) _ _
        (pick_all (T 12 act) (ltb 65535 (free_count img + size_at img slot)) _ _ tt (removed-tame _ slot))
        tt)
        tt)
        tt)

    delete-tame : T 12 act (delete img tab M S f)
    unfolding delete
    delete-tame =
        pick_all (T 12 act) (legal tab (f + name_field)) _ _
        (on_slot-all (T 12 act) (find img M S (name_in tab f)) 5 4 _ tt tt
        (λ slot e. pick_all (T 12 act) (in_use true tab (place_of S slot)) _ _ tt
        (pick_all (T 12 act) (delete_protected (attributes_at img slot)) _ _ tt
        (pick_all (T 12 act) (write_protected (attributes_at img slot)) _ _ tt
        (remove-tame slot)))))
        tt

    renamed-lands : lands 13 act (put name_field (new_name_in tab f) ∷ []) ≡ true
    unfolding lands spans touches names within part
    renamed-lands = refl

    rename-tame : T 13 act (rename img tab M S f)
    unfolding rename looks member
    rename-tame =
        pick_all (T 13 act) (legal tab (f + name_field)) _ _
        (pick_all (T 13 act) (legal tab (f + new_name_field)) _ _
        (on_slot-all (T 13 act) (find img M S (name_in tab f)) 5 4 _ tt tt
        (λ slot e. pick_all (T 13 act) (in_use true tab (place_of S slot)) _ _ tt
        (pick_all (T 13 act) (write_protected (attributes_at img slot)) _ _ tt
        (on_none-all (T 13 act) (find img M S (new_name_in tab f)) 5 3 _ tt tt
        (tame-done tab 13 act _ _ refl (λ s. lands-each 13 act (put name_field (new_name_in tab f) ∷ []) renamed-lands))))))
        tt)
        tt

  -- ---- any function

  abbrev code : ℕ
  code = function_in tab f

  abbrev act : ℕ
  act = activity_in tab f

  -- the outcome of a code where the block has it, else what follows
  on-code : (c : ℕ) (x y : Outcome) → (fits c act ≡ true → T c act x) → fits code act ≡ true → (code ≢ c → T code act y) → T code act (pick (eqb code c) x y)
  on-code c x y t h k =
      pick-cases (T code act) (eqb code c) x y
      (λ e. let q = eqb-true code c e in subst (λ (d : ℕ). T d act x) (sym q) (t (subst (λ (d : ℕ). fits d act ≡ true) q h)))
      (λ e. k (eqb-false code c e))

  perform-tame : served code ≡ true → fits code act ≡ true → T code act (perform img tab M S f b)
  unfolding perform
  perform-tame v h =
      on-code 0 _ _ transfer-tame h
      (λ n0. on-code 1 _ _ (λ k. open-read-tame act) h
      (λ n1. on-code 2 _ _ (λ k. open-write-tame act) h
      (λ n2. on-code 4 _ _ (λ k. close-tame) h
      (λ n4. on-code 5 _ _ (λ k. rewind-tame act) h
      (λ n5. on-code 6 _ _ (λ k. open-directory-tame act) h
      (λ n6. on-code 7 _ _ (λ k. next-slot-tame act) h
      (λ n7. on-code 8 _ _ (λ k. put-slot-tame act) h
      (λ n8. on-code 9 _ _ (λ k. read-sector-tame act) h
      (λ n9. on-code 10 _ _ (λ k. write-sector-tame act) h
      (λ n10. on-code 12 _ _ (λ k. delete-tame act) h
      (λ n12. subst (λ (c : ℕ). T c act (rename img tab M S f)) (sym (last_code code v n0 n1 n2 n4 n5 n6 n7 n8 n9 n10 n12)) (rename-tame act))))))))))))

-- what a call may come to: any image, any table
pub asked-tame : (img tab : List ℕ) (f b : ℕ) → Tamed tab (function_in tab f) (activity_in tab f) (asked img tab f b)
unfolding asked checked
asked-tame img tab f b =
    pick_all A (shape_right img) _ _
    (pick-cases A (served (function_in tab f)) _ _
    (λ v. pick_all A (eqb (drive_in tab f) 0) _ _
    (pick-cases A (fits (function_in tab f) (activity_in tab f)) _ _ (λ h. perform-tame img tab f b v h) (λ h. tt))
    tt)
    (λ v. tt))
    tt
  where
    A : Outcome → Type 0
    A o = Tamed tab (function_in tab f) (activity_in tab f) o
