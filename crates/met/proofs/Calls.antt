-- THE CALL: every call's effect is what its fate says. Preset and default extension leave the ledger.
use Rattle.std.proofs.Math.Path.{◌≡◌, refl, subst}
use Rattle.std.proofs.Common.{sym, ap, ◌∙◌, arith}
use Rattle.std.specs.Prelude.{◌≢◌, Bool, true, false, ℕ, zero, suc, ◌+◌, ◌*◌, ◌≤◌, ◌<◌, length, get_or, eqb, ltb}
use mathlib.Core.List.{List, [], ◌∷◌}
use Rattle.std.proofs.Math.Decide.{ℕ_discrete}
use borrow.Author.Tests.{ne_eqb, eq-eqb, eqb-true, eqb-false, lt-ltb, ltb-true}
use Rattle.rules.specs.Bytes.{pick, within, one}
use Rattle.rules.specs.Stores.{put, stored, puts}
use Rattle.rules.specs.Directory.{slots_of}
use Rattle.rules.specs.Outcome.{Outcome, Effect, on_image, on_block}
use Rattle.rules.specs.Block.{idle, activity_in, presettable, preset_in, preset, extensions, extension_in, extension}
use Rattle.rules.specs.Transfer.{transfer, close}
use Rattle.rules.specs.Call.{served, fits, misfit, checked, perform, asked, call}
use Rattle.laws.specs.Tests.{pick-cases, within-is}
use Rattle.laws.specs.Addresses.{Shape}
use Rattle.chains.specs.Addresses.{shape-right, absurd-bool}
use Rattle.laws.specs.Stores.{puts-off}
use Rattle.demands.specs.Ledger.{writes_raw, no_file, Block, closed, listing, reading, writing, Ledger, Request, Fate, activity, block, transferred, shut_block, rewound, shown_next, slot_put, performed, called, ended, request}
use Rattle.met.specs.Relation.{tb, opens, Reading, Writing, Keeps, Agrees, tp-same}
use Rattle.met.specs.Quiet.{turned, activity-is, quiet, idle-quiet, idle-opens}
use Rattle.met.specs.Meets.{Meets, meets-pick, meets-unless, Met, settles}
use Rattle.met.specs.Reads.{read_meets, rewind-meets}
use Rattle.met.proofs.Takes.{write_meets}
use Rattle.met.specs.Fills.{close-meets}
use Rattle.met.specs.Opens.{open-read-meets}
use Rattle.met.specs.Grows.{open-write-meets}
use Rattle.met.specs.Removes.{delete-meets, rename-meets}
use Rattle.met.specs.Lists.{open-directory-meets, next-slot-meets, put-slot-meets, read-sector-meets, write-sector-meets}
use Rattle.rules.specs.Files.{rewind, next_slot, put_slot}

-- a function of other codes takes an idle block
fits-idle : (code : ℕ) (o : Block) → code ≢ 0 → code ≢ 4 → code ≢ 5 → within 7 8 code ≡ false → fits code (activity o) ≡ true → opens o ≡ 0
unfolding fits idle
fits-idle code closed a b c d h = refl
fits-idle code (listing p) a b c d h = refl
fits-idle code (reading s j i) a b c d h = absurd-bool (rw (ne_eqb code 0 a, ne_eqb code 4 b, ne_eqb code 5 c, d) at h) refl
fits-idle code (writing s ub) a b c d h = absurd-bool (rw (ne_eqb code 0 a, ne_eqb code 4 b, ne_eqb code 5 c, d) at h) refl

-- none of these two
not_there : (lo code : ℕ) → code ≢ lo → code ≢ suc lo → within lo (suc lo) code ≡ false
not_there lo code a b = go (within lo (suc lo) code) refl
  where
    go : (u : Bool) → within lo (suc lo) code ≡ u → u ≡ false
    go false e = refl
    go true e = let w = within-is lo (suc lo) code e in absurd (omega (arith, a, b, w))

fits-at : (code k : ℕ) (o : Block) → code ≡ k → fits code (activity o) ≡ true → fits k (activity o) ≡ true
fits-at code k o e h = ap (λ (x : ℕ). fits x (activity o)) (sym e) ∙ h

module _ (M S : ℕ) (z : Shape M S) (img tab : List ℕ) (a : Ledger) (r : Agrees M S img tab a) (n : ℕ) (hn : n < 8) (b : ℕ) where
  abbrev q : Request
  q = request tab (320 * n) b

  transfer-meets : (o : Block) → get_or a.blocks n closed ≡ o → fits 0 (activity o) ≡ true
      → Meets M S img tab n (transfer img tab M S (320 * n) b) (transferred M S a n q o)
  unfolding transfer fits within
  transfer-meets closed e h = absurd-bool h refl
  transfer-meets (listing p) e h = absurd-bool h refl
  transfer-meets (reading s j i) e h =
      let k : Reading S (slots_of a.dir) tab n (get_or a.slots s no_file) s j i =
      subst (λ (x : Block). Keeps S (slots_of a.dir) tab n a.slots x) e (r.keeps n hn) in
      rw k.act (read_meets M S z img tab a r n hn s j i e q)
  transfer-meets (writing s ub) e h =
      let k : Writing S (slots_of a.dir) tab n (get_or a.slots s no_file) s ub =
      subst (λ (x : Block). Keeps S (slots_of a.dir) tab n a.slots x) e (r.keeps n hn) in
      rw k.act (write_meets M S z img tab a r n hn q s ub e)

  shut-meets : (o : Block) → get_or a.blocks n closed ≡ o → fits 4 (activity o) ≡ true
      → Meets M S img tab n (close img tab M S (320 * n)) (shut_block M S a n q o)
  unfolding fits within
  shut-meets closed e h = absurd-bool h refl
  shut-meets (listing p) e h = close-meets M S z img tab a r n hn q (listing p) e (λ x. let y : ◌≡◌ {A = ℕ} 0 1 = cc in omega arith)
  shut-meets (reading s j i) e h = close-meets M S z img tab a r n hn q (reading s j i) e (λ x. let y : ◌≡◌ {A = ℕ} 0 1 = cc in omega arith)
  shut-meets (writing s ub) e h = close-meets M S z img tab a r n hn q (writing s ub) e (λ x. let y : ◌≡◌ {A = ℕ} 0 1 = cc in omega arith)

  back-meets : (o : Block) → get_or a.blocks n closed ≡ o → fits 5 (activity o) ≡ true → Meets M S img tab n rewind (rewound M S a n q o)
  unfolding fits
  back-meets closed e h = absurd-bool h refl
  back-meets (listing p) e h = absurd-bool h refl
  back-meets (reading s j i) e h = rewind-meets M S z img tab a r n hn s j i e q
  back-meets (writing s ub) e h = absurd-bool h refl

  list-meets : (o : Block) → get_or a.blocks n closed ≡ o → fits 7 (activity o) ≡ true
      → Meets M S img tab n (next_slot img tab M S (320 * n)) (shown_next M S a n q o)
  unfolding fits within
  list-meets closed e h = absurd-bool h refl
  list-meets (listing p) e h = next-slot-meets M S z img tab a r n hn q p e
  list-meets (reading s j i) e h = absurd-bool h refl
  list-meets (writing s ub) e h = absurd-bool h refl

  put_meets : writes_raw (get_or tab (320 * n + 0) 0) ≡ true → (o : Block) → get_or a.blocks n closed ≡ o → fits 8 (activity o) ≡ true
      → Meets M S img tab n (put_slot img tab M S (320 * n)) (slot_put M S a n q o)
  unfolding fits within
  put_meets raw closed e h = absurd-bool h refl
  put_meets raw (listing p) e h = put-slot-meets M S z img tab a r n hn raw q p e
  put_meets raw (reading s j i) e h = absurd-bool h refl
  put_meets raw (writing s ub) e h = absurd-bool h refl

  abbrev code : ℕ
  code = get_or tab (320 * n + 0) 0

  by_code : (k : ℕ) (x y : Outcome) (x' y' : Fate) → (eqb code k ≡ true → Meets M S img tab n x x')
      → (eqb code k ≡ false → Meets M S img tab n y y')
      → Meets M S img tab n (pick (eqb code k) x y) (pick (eqb code k) x' y')
  by_code k x y x' y' = meets-pick M S img tab n (eqb code k) (eqb code k) x y x' y' refl

  perform-meets : tb tab n 3 ≡ 0 → fits code (activity (block a n)) ≡ true
      → Meets M S img tab n (perform img tab M S (320 * n) b) (performed M S a n q)
  unfolding perform performed
  perform-meets dr h =
      let ok = fits-at code in
      by_code 0 _ _ _ _ (λ e0. transfer-meets (block a n) refl (ok 0 (block a n) (eqb-true code 0 e0) h))
      (λ n0. by_code 1 _ _ _ _ (λ e1. open-read-meets M S z img tab a r n hn dr b)
      (λ n1. by_code 2 _ _ _ _ (λ e2. open-write-meets M S z img tab a r n hn dr b)
      (λ n2. by_code 4 _ _ _ _ (λ e4. shut-meets (block a n) refl (ok 4 (block a n) (eqb-true code 4 e4) h))
      (λ n4. by_code 5 _ _ _ _ (λ e5. back-meets (block a n) refl (ok 5 (block a n) (eqb-true code 5 e5) h))
      (λ n5. by_code 6 _ _ _ _ (λ e6. open-directory-meets M S z img tab a r n hn q)
      (λ n6. by_code 7 _ _ _ _ (λ e7. list-meets (block a n) refl (ok 7 (block a n) (eqb-true code 7 e7) h))
      (λ n7. by_code 8 _ _ _ _ (λ e8. put_meets (ap writes_raw (eqb-true code 8 e8)) (block a n) refl (ok 8 (block a n) (eqb-true code 8 e8) h))
      (λ n8. let oz = fits-idle code (block a n) (eqb-false code 0 n0) (eqb-false code 4 n4) (eqb-false code 5 n5) (not_there 7 code (eqb-false code 7 n7) (eqb-false code 8 n8)) h in
      by_code 9 _ _ _ _ (λ e9. read-sector-meets M S z img tab a r n hn b oz)
      (λ n9. by_code 10 _ _ _ _ (λ e10. write-sector-meets M S z img tab a r n hn (ap writes_raw (eqb-true code 10 e10)) q refl)
      (λ n10. by_code 12 _ _ _ _ (λ e12. delete-meets M S z img tab a r n hn oz b)
      (λ n12. rename-meets M S z img tab a r n hn oz b)))))))))))

  misfit-pos : (code act : ℕ) → misfit code act ≢ 0
  unfolding misfit
  misfit-pos code act =
      pick-cases (λ (x : ℕ). x ≢ 0) (eqb code 4) _ _ (λ h. pick-cases (λ (x : ℕ). x ≢ 0) (eqb act 0) 13 18 (λ h. omega arith) (λ h. omega arith)) (λ h. omega arith)

  asked-meets : Meets M S img tab n (asked img tab (320 * n) b) (called M S a n q)
  unfolding asked checked called
  asked-meets =
      let act = activity-is S (slots_of a.dir) tab n a.slots (block a n) (r.keeps n hn) in
      rw (shape-right M S z img r.shaped, r.shaped.last, r.shaped.per, act)
      (meets-unless M S img tab n (served code) (served code) 1 _ _ refl (omega arith)
      (λ h1. meets-unless M S img tab n _ (eqb q.drive 0) 16 _ _ refl (omega arith)
      (λ h16. meets-unless M S img tab n (fits code (activity (block a n))) (fits code (activity (block a n))) (misfit code (activity (block a n))) _ _ refl (misfit-pos code (activity (block a n))) (perform-meets (eqb-true (tb tab n 3) 0 h16)))))

  -- THE CALL meets its fate
  pub call_met : Met M S img tab a n (call img tab n b) (ended (called M S a n q))
  unfolding call
  call_met =
      rw (eq-eqb (length tab) 2560 r.tlen, lt-ltb n 8 hn)
      (settles M S z img tab a r n hn (asked img tab (320 * n) b) (called M S a n q) asked-meets)

-- ---- preset and default extension

idle-act : (x : ℕ) → idle x ≡ true → (x ≢ 1) × (x ≢ 2)
unfolding idle
idle-act x h = go (ℕ_discrete x 0)
  where
    go : Dec (x ≡ 0) → (x ≢ 1) × (x ≢ 2)
    go (yes q) = omega arith
    go (no q) = let y : x ≡ 16 = eqb-true x 16 (rw (ne_eqb x 0 q) at h) in omega arith

-- an offset that can be preset: never activity nor place
pub record Offset (i : ℕ) : Type 0 where
  pub low : 3 ≤ i
  pub high : i < 320
  pub not_place : (47 ≤ i → i < 50 → ⊥)

pub offset-is : (i : ℕ) → presettable i ≡ true → Offset i
unfolding presettable
offset-is i h = go (within 3 27 i) refl (within 30 31 i) refl h
  where
    go : (u : Bool) → within 3 27 i ≡ u → (v : Bool) → within 30 31 i ≡ v → pick u true (pick v true (within 53 319 i)) ≡ true → Offset i
    go true e v f h = let s = within-is 3 27 i e in record { low = omega arith; high = omega arith; not_place = λ x y. omega arith }
    go false e true f h = let s = within-is 30 31 i f in record { low = omega arith; high = omega arith; not_place = λ x y. omega arith }
    go false e false f h = let s = within-is 53 319 i h in record { low = omega arith; high = omega arith; not_place = λ x y. omega arith }

pub extension-length : (code : ℕ) → code < 12 → length (get_or extensions code []) ≡ 3
unfolding extensions
extension-length zero h = refl
extension-length (suc zero) h = refl
extension-length (suc (suc zero)) h = refl
extension-length (suc (suc (suc zero))) h = refl
extension-length (suc (suc (suc (suc zero)))) h = refl
extension-length (suc (suc (suc (suc (suc zero))))) h = refl
extension-length (suc (suc (suc (suc (suc (suc zero)))))) h = refl
extension-length (suc (suc (suc (suc (suc (suc (suc zero))))))) h = refl
extension-length (suc (suc (suc (suc (suc (suc (suc (suc zero)))))))) h = refl
extension-length (suc (suc (suc (suc (suc (suc (suc (suc (suc zero))))))))) h = refl
extension-length (suc (suc (suc (suc (suc (suc (suc (suc (suc (suc zero)))))))))) h = refl
extension-length (suc (suc (suc (suc (suc (suc (suc (suc (suc (suc (suc zero))))))))))) h = refl
extension-length (suc (suc (suc (suc (suc (suc (suc (suc (suc (suc (suc (suc c)))))))))))) h = absurd (omega arith)

module _ (M S : ℕ) (z : Shape M S) (img tab : List ℕ) (a : Ledger) (r : Agrees M S img tab a) (n : ℕ) where
  -- image and table agree with the ledger after an effect
  abbrev pub Still : Effect → Type 0
  Still e = Agrees M S (stored img (on_image e)) (puts tab (320 * n) (on_block e)) a

  pub preset-still : (i v : ℕ) → Still (preset tab n i v)
  unfolding preset preset_in one
  preset-still i v =
      pick-cases Still (eqb (length tab) 2560) _ _
      (λ h. pick-cases Still (ltb n 8) _ _
      (λ h8. let hn = ltb-true n 8 h8 in
      pick-cases Still (eqb i 0) _ _
      (λ h0. let e : i ≡ 0 = eqb-true i 0 h0 in
      quiet M S z img tab a r n hn (puts tab (320 * n) (put i (v ∷ []) ∷ [])) (turned tab n (put i (v ∷ []) ∷ []) (omega arith))
      (λ j k. puts-off (put i (v ∷ []) ∷ []) tab (320 * n) (320 * n + j) (omega (arith, k))))
      (λ h0. pick-cases Still (presettable i) _ _
      (λ hp. pick-cases Still (idle (activity_in tab (320 * n))) _ _
      (λ hi.
      let p = offset-is i hp in
      let k = idle-act (tb tab n 2) hi in
      idle-quiet M S z img tab a r n hn (puts tab (320 * n) (put i (v ∷ []) ∷ [])) (turned tab n (put i (v ∷ []) ∷ []) (omega (arith, p.high)))
      (idle-opens M S z img tab a r n hn k.0 k.1) (puts-off (put i (v ∷ []) ∷ []) tab (320 * n) (320 * n + 2) (omega (arith, p.low)))
      (tp-same tab (puts tab (320 * n) (put i (v ∷ []) ∷ [])) n (λ j h. puts-off (put i (v ∷ []) ∷ []) tab (320 * n) (320 * n + j) ((λ x y. p.not_place (omega (arith, h)) (omega (arith, h))), tt))))
      (λ hi. r))
      (λ hp. r)))
      (λ h8. r))
      (λ h. r)

  pub extension-still : (c : ℕ) → Still (extension tab n c)
  unfolding extension extension_in
  extension-still c =
      pick-cases Still (eqb (length tab) 2560) _ _
      (λ h. pick-cases Still (ltb n 8) _ _
      (λ h8. let hn = ltb-true n 8 h8 in
      pick-cases Still (idle (activity_in tab (320 * n))) _ _
      (λ hi. pick-cases Still (eqb (get_or tab (320 * n + 12) 0) 0) _ _
      (λ h0. pick-cases Still (ltb c 12) _ _
      (λ hc.
      let l = extension-length c (ltb-true c 12 hc) in
      let ps = put 12 (get_or extensions c []) ∷ [] in
      let k = idle-act (tb tab n 2) hi in
      idle-quiet M S z img tab a r n hn (puts tab (320 * n) ps) (turned tab n ps (omega (arith, l)))
      (idle-opens M S z img tab a r n hn k.0 k.1) (puts-off ps tab (320 * n) (320 * n + 2) (omega (arith, l)))
      (tp-same tab (puts tab (320 * n) ps) n (λ j h. puts-off ps tab (320 * n) (320 * n + j) (omega (arith, l, h)))))
      (λ hc. r))
      (λ h0. r))
      (λ hi. r))
      (λ h8. r))
      (λ h. r)
