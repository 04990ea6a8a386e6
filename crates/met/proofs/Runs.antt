-- Our service over every list of plain calls: image and table stay in agreement with the history, the directory tidy, and every answer is the predicted one.
use Rattle.std.specs.Prelude.{◌≡◌, ◌≢◌, Bool, ℕ, ◌+◌, ◌*◌, ◌≤◌, ◌<◌, length, get_or, set, eqb, ltb}
use Rattle.std.proofs.Math.Path.{refl, sym, ap, subst}
use Rattle.std.proofs.Common.{◌∙◌, arith, get_or-set_same}
use Rattle.std.proofs.Math.Bool.{true, false}
use mathlib.Core.List.{List, [], ◌∷◌}
use Rattle.std.proofs.Math.Decide.{dec_lt, ℕ_discrete}
use borrow.Author.Tests.{eq-eqb, ne_eqb, eqb-true, lt-ltb, le-ltb, ltb-true}
use Rattle.rules.specs.Bytes.{pick, part, one, zeros}
use Rattle.rules.specs.Stores.{Put, put, stored, puts}
use Rattle.rules.specs.Outcome.{Effect, effect, answer, given, on_image, on_block, out}
use Rattle.rules.specs.Image.{last_track, per_track}
use Rattle.rules.specs.Block.{block_at, function_in, presettable, idle, activity_in, preset_in, extension_in, extension, preset}
use Rattle.rules.specs.Call.{call}
use Rattle.rules.specs.Census.{Survey, survey, census}
use Rattle.laws.specs.Bytes.{length-one, length_part}
use Rattle.laws.specs.Each.{Each}
use Rattle.laws.specs.Stores.{Within}
use Rattle.laws.specs.Tests.{pick-cases}
use Rattle.laws.specs.Effects.{call-wrong, preset-quiet, extension-quiet}
use Rattle.laws.specs.Surveys.{Sane, census-is}
use Rattle.laws.specs.Addresses.{Shape, Shaped}
use Rattle.chains.specs.Addresses.{Sized}
use Rattle.demands.specs.Ledger.{Call, setting, extending, asking, block_of, writes_raw, Ledger, fcb, Request, asks, request, Fate, denied, granted, ended, edits, reply, gives, after, called, fate, put_into}
use Rattle.demands.specs.Diskette.{ledger_of}
use Rattle.demands.specs.Service.{flex, ans_of, byte_of, Machine, outcome, answers, gave, next, entry, run, log}
use Rattle.demands.specs.History.{noted, Scene, then, history, scenes, Told, raw, Plain}
use Rattle.demands.specs.Demands.{Start, begun, survey_answer, data_sectors}
use Rattle.met.specs.Relation.{Agrees}
use Rattle.met.specs.Meets.{Sure, puts_by, ledger_by, Met}
use Rattle.met.proofs.Calls.{call_met, preset-still, extension-still, offset-is, extension-length}
use Rattle.met.specs.Tidy.{Tidy}
use Rattle.met.specs.Changes.{Changes, changes, forms-kept, tidy-change, own-live}
use Rattle.met.specs.Survey.{start-agrees, start-tidy}
use Rattle.met.specs.Forms.{request-in, preset-in, extension-in, Formed, formed-start, formed-puts, formed-beyond}

-- ---- what a preset or an extension puts lies in the block

abbrev InBlock : Effect → Type 0
InBlock e = Each Within (on_block e)

preset-within : (tab : List ℕ) (f i v : ℕ) → Each Within (on_block (preset_in tab f i v))
unfolding preset_in
preset-within tab f i v =
    pick-cases InBlock (eqb i 0) _ _ (λ h. let e : i ≡ 0 = eqb-true i 0 h in (omega (arith, length-one v), tt))
    (λ h. pick-cases InBlock (presettable i) _ _ (λ k. pick-cases InBlock (idle (activity_in tab f)) _ _ (λ l. (omega (arith, (offset-is i k).high, length-one v), tt)) (λ l. tt)) (λ k. tt))

extension-within : (tab : List ℕ) (f c : ℕ) → Each Within (on_block (extension_in tab f c))
unfolding extension_in
extension-within tab f c =
    pick-cases InBlock (idle (activity_in tab f)) _ _
    (λ h. pick-cases InBlock (eqb (get_or tab (f + 12) 0) 0) _ _
    (λ k. pick-cases InBlock (ltb c 12) _ _ (λ l. (omega (arith, extension-length c (ltb-true c 12 l)), tt)) (λ l. tt)) (λ k. tt)) (λ h. tt)

-- presets and extensions store nothing into the image
nothing_stored : (img : List ℕ) (e : Effect) → length (on_image e) ≤ 0 → stored img (on_image e) ≡ img
nothing_stored img (effect a b [] ps) h = refl
nothing_stored img (effect a b (s ∷ ss) ps) h = absurd (omega arith)

-- ---- machine and ledger agree, block by block too, and the directory is tidy

pub record Fine (M S : ℕ) (x : Machine) (a : Ledger) : Type 0 where
  pub agrees : Agrees M S x.img x.tab a
  pub tidy : Tidy a.slots
  pub formed : Formed x.tab a.fcbs

-- the bytes of blocks have no say in the relation
reform : (M S : ℕ) (img tab : List ℕ) (a : Ledger) (n : ℕ) (ps : List Put) → Agrees M S img tab a → Agrees M S img tab (put_into a n ps)
reform M S img tab a n ps r = record {
  shaped = r.shaped;
  tlen = r.tlen;
  listing = r.listing;
  dir = r.dir;
  heads = r.heads;
  ns = r.ns;
  nb = r.nb;
  free = r.free;
  holds = r.holds;
  keeps = r.keeps;
  alone = r.alone;
  once = r.once;
  spare = r.spare;
  small = r.small;
  len = r.len;
  aside = r.aside;
}

-- a call of ours as the history sees it
abbrev pub scene_of : ℕ → ℕ → Machine → Ledger → Call → Scene
scene_of M S x a c = record { before = a; made = c; due = fate M S a c; ans = answers flex x c; back = gave flex x c }

-- it is none of the raw writes, by its code
pub plain_code : (M S : ℕ) (x : Machine) (a : Ledger) (n b k : ℕ) → (asks a n b).code ≡ k → writes_raw k ≡ false → raw (scene_of M S x a (asking n b)) ≡ false
plain_code M S x a n b k e h = rw (e, h) refl

-- a call of ours in the ledger; what an accepted raw write leaves agrees with none
pub record Step (M S : ℕ) (x : Machine) (a : Ledger) (c : Call) : Type 0 where
  pub fine : raw (scene_of M S x a c) ≡ false → Fine M S (next flex x c) (then M S a (entry flex x c))
  pub ans : answers flex x c ≡ reply (fate M S a c)
  pub byte : gave flex x c ≡ gives (fate M S a c)

-- a call of one of the eight blocks
pub record Asked (M S : ℕ) (x : Machine) (a : Ledger) (n b : ℕ) : Type 0 where
  pub ans : answers flex x (asking n b) ≡ reply (called M S a n (asks a n b))
  pub byte : gave flex x (asking n b) ≡ gives (called M S a n (asks a n b))
  pub sure : Sure (called M S a n (asks a n b))
  pub is : then M S a (entry flex x (asking n b)) ≡ put_into (ledger_by a (called M S a n (asks a n b))) n (puts_by (ended (called M S a n (asks a n b))))

ended-reply : (φ : Fate) → reply (ended φ) ≡ reply φ
ended-reply (denied e) = refl
ended-reply (granted b a ps) = refl

ended-gives : (φ : Fate) → gives (ended φ) ≡ gives φ
ended-gives (denied e) = refl
ended-gives (granted b a ps) = refl

ended-sure : (φ : Fate) → Sure (ended φ) → Sure φ
ended-sure (denied e) h = h
ended-sure (granted b a ps) h = tt

ended-ledger : (a : Ledger) (φ : Fate) → ledger_by a (ended φ) ≡ ledger_by a φ
ended-ledger a (denied e) = refl
ended-ledger a (granted b a' ps) = refl

module _ (M S : ℕ) (z : Shape M S) (x : Machine) (a : Ledger) (f : Fine M S x a) where
  -- what a block asks for stands in its bytes
  pub asks-is : (n b : ℕ) → n < 8 → request x.tab (320 * n) b ≡ asks a n b
  asks-is n b h = sym (request-in x.tab (320 * n) b) ∙ ap (λ (m : List ℕ). request m 0 b) (f.formed.is n h)

  -- ---- a call
  module _ (n b : ℕ) (hn : n < 8) where
    abbrev φ : Fate
    φ = called M S a n (asks a n b)

    met : Met M S x.img x.tab a n (call x.img x.tab n b) (ended φ)
    met =
        subst (λ (q : Request). Met M S x.img x.tab a n (call x.img x.tab n b) (ended (called M S a n q))) (asks-is n b hn)
        (call_met M S z x.img x.tab a f.agrees n hn b)

    -- the ledger after it
    then_by : (ψ : Fate) → Sure ψ → (e : ℕ) → e ≡ reply ψ → pick (eqb e 0) (after a n ψ) (put_into a n (put 1 (one e) ∷ [])) ≡ put_into (ledger_by a ψ) n (puts_by ψ)
    then_by (denied v) s e h = rw (ne_eqb e 0 (λ q. s (sym h ∙ q)), h) refl
    then_by (granted v a' ps) s e h = rw (eq-eqb e 0 h) refl

    fate-here : fate M S a (asking n b) ≡ ended φ
    unfolding fate
    fate-here = rw (lt-ltb n 8 hn) refl

    pub asked : Asked M S x a n b
    unfolding then entry outcome
    asked = record {
      ans = met.ans ∙ ended-reply φ;
      byte = met.byte ∙ ended-gives φ;
      sure = ended-sure φ met.sure;
      is = ap (λ (ψ : Fate). pick (eqb (answers flex x (asking n b)) 0) (after a n ψ) (put_into a n (put 1 (one (answers flex x (asking n b))) ∷ []))) fate-here
          ∙ then_by (ended φ) met.sure (answers flex x (asking n b)) met.ans ∙ ap (λ (y : Ledger). put_into y n (puts_by (ended φ))) (ended-ledger a φ);
    }

    tidy-by : (ψ : Fate) → Changes a n (asks a n b) ψ → Tidy (ledger_by a ψ).slots
    tidy-by (denied e) c = f.tidy
    tidy-by (granted v a' ps) c =
        tidy-change a f.tidy a' n (asks a n b) (length_part (fcb a n) (0 + 4) 11) (length_part (fcb a n) (0 + 53) 11)
        (own-live M S x.img x.tab a f.agrees n hn) c

    forms-by : (ψ : Fate) → Changes a n (asks a n b) ψ → (ledger_by a ψ).fcbs ≡ a.fcbs
    forms-by (denied e) c = refl
    forms-by (granted v a' ps) c = forms-kept a a' n (asks a n b) c

    -- the blocks' bytes after it
    ask-formed : Formed (next flex x (asking n b)).tab (put_into (ledger_by a φ) n (puts_by (ended φ))).fcbs
    unfolding next outcome
    ask-formed =
        let tab' = puts x.tab (320 * n) (on_block (call x.img x.tab n b)) in
        subst (λ (y : List (List ℕ)). Formed tab' (set y n (puts (get_or y n []) 0 (puts_by (ended φ))))) (sym (forms-by φ (changes M S a n (asks a n b))))
        (subst (λ (ps : List Put). Formed tab' (set a.fcbs n (puts (get_or a.fcbs n []) 0 ps))) met.laid
        (formed-puts x.tab a.fcbs f.formed f.agrees.tlen n (on_block (call x.img x.tab n b)) hn met.within))

    -- if it is to be accepted, it is no raw write
    not-raw : raw (scene_of M S x a (asking n b)) ≡ false → reply (ended φ) ≡ 0 → writes_raw (function_in x.tab (320 * n)) ≡ false
    unfolding outcome
    not-raw p e =
        ap (λ (q : Request). writes_raw q.code) (asks-is n b hn) ∙ go (writes_raw (asks a n b).code) (rw (fate-here, eq-eqb (reply (ended φ)) 0 e) at p)
      where
        go : (u : Bool) → pick u true false ≡ false → u ≡ false
        go true h = h
        go false h = refl

    ask-fine : raw (scene_of M S x a (asking n b)) ≡ false → Fine M S (next flex x (asking n b)) (put_into (ledger_by a φ) n (puts_by (ended φ)))
    unfolding next outcome
    ask-fine p =
        let tab' = puts x.tab (320 * n) (on_block (call x.img x.tab n b)) in
        record {
          agrees = reform M S (stored x.img (on_image (call x.img x.tab n b))) tab' (ledger_by a φ) n (puts_by (ended φ))
              (subst (λ (y : Ledger). Agrees M S (stored x.img (on_image (call x.img x.tab n b))) tab' y) (ended-ledger a φ) (met.rep (not-raw p)));
          tidy = tidy-by φ (changes M S a n (asks a n b));
          formed = ask-formed;
        }

    -- the bytes of its block afterwards
    pub block-after : part (next flex x (asking n b)).tab (320 * n) 320 ≡ puts (fcb a n) 0 (puts_by (ended φ))
    block-after =
        let fs = forms-by φ (changes M S a n (asks a n b)) in
        ask-formed.is n hn ∙ get_or-set_same (ledger_by a φ).fcbs n (puts (fcb (ledger_by a φ) n) 0 (puts_by (ended φ))) [] (omega (arith, ap length fs, f.formed.count))
        ∙ ap (λ (y : List (List ℕ)). puts (get_or y n []) 0 (puts_by (ended φ))) fs

    pub ask-step : Step M S x a (asking n b)
    unfolding outcome
    ask-step = record {
      fine = λ p. subst (λ (y : Ledger). Fine M S (next flex x (asking n b)) y) (sym asked.is) (ask-fine p);
      ans = met.ans ∙ ap reply (sym fate-here);
      byte = met.byte ∙ ap gives (sym fate-here);
    }

  -- a block that there is not: nothing happens
  ask-beyond : (n b : ℕ) → 8 ≤ n → Step M S x a (asking n b)
  unfolding next then entry outcome fate
  ask-beyond n b h =
      let e : call x.img x.tab n b ≡ effect 13 0 [] [] = call-wrong x.img x.tab n b (λ p q. omega arith) in
      let after-it : Fine M S x (put_into a n (put 1 (one 13) ∷ [])) =
      record {
        agrees = reform M S x.img x.tab a n (put 1 (one 13) ∷ []) f.agrees;
        tidy = f.tidy;
        formed = formed-beyond x.tab a.fcbs f.formed f.agrees.tlen n (puts (fcb a n) 0 (put 1 (one 13) ∷ [])) h;
      } in
      record {
        fine = λ p. subst
            (λ (w : Effect). Fine M S (record { img = stored x.img (on_image w); tab = puts x.tab (block_at n) (on_block w) })
            (pick (eqb (answer w) 0) (after a n (pick (ltb n 8) (ended (called M S a n (asks a n b))) (denied 13))) (put_into a n (put 1 (one (answer w)) ∷ []))))
            (sym e) after-it;
        ans = ap answer e ∙ sym (ap (λ (u : Bool). reply (pick u (ended (called M S a n (asks a n b))) (denied 13))) (le-ltb n 8 h));
        byte = ap given e ∙ sym (ap (λ (u : Bool). gives (pick u (ended (called M S a n (asks a n b))) (denied 13))) (le-ltb n 8 h));
      }

  -- ---- a preset, a default extension: an effect that stores nothing, and puts nothing where it is refused
  module _ (n : ℕ) (e e' : Effect) (hn : n < 8) (same : e' ≡ e) (within : Each Within (on_block e)) (refused : answer e ≢ 0 → on_block e ≡ [])
      (still : Agrees M S x.img (puts x.tab (320 * n) (on_block e)) a) where
    edit-fine : Fine M S (record { img = x.img; tab = puts x.tab (320 * n) (on_block e) }) (pick (eqb (answer e) 0) (after a n (edits a e')) a)
    edit-fine = subst (λ (y : Effect). Fine M S (record { img = x.img; tab = puts x.tab (320 * n) (on_block e) }) (pick (eqb (answer e) 0) (after a n (edits a y)) a)) (sym same) (go (ℕ_discrete (answer e) 0))
      where
        go : Dec (answer e ≡ 0) → Fine M S (record { img = x.img; tab = puts x.tab (320 * n) (on_block e) }) (pick (eqb (answer e) 0) (after a n (edits a e)) a)
        go (yes h) =
            rw (eq-eqb (answer e) 0 h)
            (record {
              agrees = reform M S x.img (puts x.tab (320 * n) (on_block e)) a n (on_block e) still;
              tidy = f.tidy;
              formed = formed-puts x.tab a.fcbs f.formed f.agrees.tlen n (on_block e) hn within;
            })
        go (no h) =
            rw (ne_eqb (answer e) 0 h, refused h) (record { agrees = f.agrees; tidy = f.tidy; formed = f.formed })

    edit-answer : answer e ≡ reply (edits a e')
    edit-answer = ap answer (sym same) ∙ go (ℕ_discrete (answer e') 0)
      where
        go : Dec (answer e' ≡ 0) → answer e' ≡ reply (edits a e')
        go (yes h) = rw (eq-eqb (answer e') 0 h) h
        go (no h) = rw (ne_eqb (answer e') 0 h) refl

    edit-byte : 0 ≡ gives (edits a e')
    edit-byte = go (ℕ_discrete (answer e') 0)
      where
        go : Dec (answer e' ≡ 0) → 0 ≡ gives (edits a e')
        go (yes h) = rw (eq-eqb (answer e') 0 h) refl
        go (no h) = rw (ne_eqb (answer e') 0 h) refl

  -- of a table of eight blocks
  on-table : (n : ℕ) (e : Effect) → n < 8 → pick (eqb (length x.tab) 2560) (pick (ltb n 8) e (effect 13 0 [] [])) (effect 13 0 [] []) ≡ e
  on-table n e h = rw (eq-eqb (length x.tab) 2560 f.agrees.tlen, lt-ltb n 8 h) refl

  off-table : (n : ℕ) (e : Effect) → 8 ≤ n
      → pick (eqb (length x.tab) 2560) (pick (ltb n 8) e (effect 13 0 [] [])) (effect 13 0 [] []) ≡ effect 13 0 [] []
  off-table n e h = rw (eq-eqb (length x.tab) 2560 f.agrees.tlen, le-ltb n 8 h) refl

  -- a preset or an extension of block n, whose effect on the table is e and on the ledger's bytes e'
  edited : (c : Call) (n : ℕ) (e e' : Effect) → outcome flex x c ≡ out (answer e) 0 x.img (puts x.tab (320 * n) (on_block e))
      → fate M S a c ≡ edits a e' → block_of c ≡ n → ((v : ℕ) → noted a c v ≡ a) → n < 8 → e' ≡ e → Each Within (on_block e) → (answer e ≢ 0 → on_block e ≡ [])
      → Agrees M S x.img (puts x.tab (320 * n) (on_block e)) a → Step M S x a c
  unfolding next then entry
  edited c n e e' o ft bc nt hn same within refused still = record {
    fine = λ p. rw (o, ft, bc, nt (answer e)) (edit-fine n e e' hn same within refused still);
    ans = ap ans_of o ∙ edit-answer n e e' hn same within refused still ∙ ap reply (sym ft);
    byte = ap byte_of o ∙ edit-byte n e e' hn same within refused still ∙ ap gives (sym ft);
  }

  -- of a block that there is not: nothing happens
  unedited : (c : Call) → outcome flex x c ≡ out 13 0 x.img x.tab → fate M S a c ≡ denied 13 → ((v : ℕ) → noted a c v ≡ a)
      → Step M S x a c
  unfolding next then entry
  unedited c o ft nt = record {
    fine = λ p. rw (o, nt 13) f;
    ans = ap ans_of o ∙ ap reply (sym ft);
    byte = ap byte_of o ∙ ap gives (sym ft);
  }

  -- either
  edit-step : (c : Call) (n : ℕ) (e e' w : Effect) → w ≡ pick (eqb (length x.tab) 2560) (pick (ltb n 8) e (effect 13 0 [] [])) (effect 13 0 [] [])
      → outcome flex x c ≡ out (answer w) 0 x.img (puts x.tab (320 * n) (on_block w)) → fate M S a c ≡ pick (ltb n 8) (edits a e') (denied 13) → block_of c ≡ n
      → ((v : ℕ) → noted a c v ≡ a) → (n < 8 → e' ≡ e) → Each Within (on_block e) → (answer w ≢ 0 → on_block w ≡ []) → length (on_image w) ≤ 0
      → Agrees M S (stored x.img (on_image w)) (puts x.tab (320 * n) (on_block w)) a → Step M S x a c
  edit-step c n e e' w whole o ft bc nt same within refused few still = go (dec_lt n 8)
    where
      go : Dec (n < 8) → Step M S x a c
      go (yes h) =
          let is : w ≡ e = whole ∙ on-table n e h in
          edited c n e e' (o ∙ ap (λ (y : Effect). out (answer y) 0 x.img (puts x.tab (320 * n) (on_block y))) is)
          (ft ∙ ap (λ (u : Bool). pick u (edits a e') (denied 13)) (lt-ltb n 8 h)) bc nt h (same h) within (subst (λ (y : Effect). answer y ≢ 0 → on_block y ≡ []) is refused)
          (subst (λ (y : Effect). Agrees M S x.img (puts x.tab (320 * n) (on_block y)) a) is
          (subst (λ (m : List ℕ). Agrees M S m (puts x.tab (320 * n) (on_block w)) a) (nothing_stored x.img w few) still))
      go (no h) =
          unedited c (o ∙ ap (λ (y : Effect). out (answer y) 0 x.img (puts x.tab (320 * n) (on_block y))) (whole ∙ off-table n e (omega arith)))
          (ft ∙ ap (λ (u : Bool). pick u (edits a e') (denied 13)) (le-ltb n 8 (omega arith))) nt

  set-step : (n i v : ℕ) → Step M S x a (setting n i v)
  unfolding outcome fate preset
  set-step n i v =
      let quiet = preset-quiet x.img x.tab n i v in
      edit-step (setting n i v) n (preset_in x.tab (320 * n) i v) (preset_in (fcb a n) 0 i v) (preset x.tab n i v) refl refl refl refl (λ w. refl)
      (λ h. ap (λ (m : List ℕ). preset_in m 0 i v) (sym (f.formed.is n h)) ∙ preset-in x.tab (320 * n) i v)
      (preset-within x.tab (320 * n) i v) quiet.1 quiet.0.few (preset-still M S z x.img x.tab a f.agrees n i v)

  extend-step : (n c : ℕ) → Step M S x a (extending n c)
  unfolding outcome fate extension
  extend-step n c =
      let quiet = extension-quiet x.img x.tab n c in
      edit-step (extending n c) n (extension_in x.tab (320 * n) c) (extension_in (fcb a n) 0 c) (extension x.tab n c) refl refl refl refl (λ w. refl)
      (λ h. ap (λ (m : List ℕ). extension_in m 0 c) (sym (f.formed.is n h)) ∙ extension-in x.tab (320 * n) c)
      (extension-within x.tab (320 * n) c) quiet.1 quiet.0.few (extension-still M S z x.img x.tab a f.agrees n c)

  -- ONE CALL, whatever it is
  pub step : (c : Call) → Step M S x a c
  step (setting n i v) = set-step n i v
  step (extending n c) = extend-step n c
  step (asking n b) = go (dec_lt n 8)
    where
      go : Dec (n < 8) → Step M S x a (asking n b)
      go (yes h) = ask-step n b h
      go (no h) = ask-beyond n b (omega arith)

  -- a block that there is not is answered 13
  pub beyond : (n b : ℕ) → 8 ≤ n → answers flex x (asking n b) ≡ 13
  unfolding fate
  beyond n b h = (ask-beyond n b h).ans ∙ ap (λ (u : Bool). reply (pick u (ended (called M S a n (asks a n b))) (denied 13))) (le-ltb n 8 h)

-- ---- the ledger after a call, but for the bytes of blocks

pub record Likewise (a a' : Ledger) : Type 0 where
  pub base : a'.base ≡ a.base
  pub free : a'.free ≡ a.free
  pub spare : a'.spare ≡ a.spare
  pub dir : a'.dir ≡ a.dir
  pub heads : a'.heads ≡ a.heads
  pub slots : a'.slots ≡ a.slots
  pub blocks : a'.blocks ≡ a.blocks

likewise-puts : (a : Ledger) (n : ℕ) (ps : List Put) → Likewise a (put_into a n ps)
likewise-puts a n ps = record { base = refl; free = refl; spare = refl; dir = refl; heads = refl; slots = refl; blocks = refl }

likewise-edits : (a : Ledger) (n : ℕ) (e : Effect) (u v : Bool) → Likewise a (pick u (after a n (pick v (edits a e) (denied 13))) a)
likewise-edits a n e false v = record { base = refl; free = refl; spare = refl; dir = refl; heads = refl; slots = refl; blocks = refl }
likewise-edits a n e true false = record { base = refl; free = refl; spare = refl; dir = refl; heads = refl; slots = refl; blocks = refl }
likewise-edits a n e true true =
    pick-cases (λ (ψ : Fate). Likewise a (after a n ψ)) (eqb (answer e) 0) _ _ (λ h. likewise-puts a n (on_block e)) (λ h. record { base = refl; free = refl; spare = refl; dir = refl; heads = refl; slots = refl; blocks = refl })

-- a preset or an extension
pub likewise-set : (M S : ℕ) (a : Ledger) (n i v ans back : ℕ) → Likewise a (then M S a (record { made = setting n i v; ans = ans; back = back }))
unfolding then fate
likewise-set M S a n i v ans back = likewise-edits a n (preset_in (fcb a n) 0 i v) (eqb ans 0) (ltb n 8)

pub likewise-extend : (M S : ℕ) (a : Ledger) (n c ans back : ℕ) → Likewise a (then M S a (record { made = extending n c; ans = ans; back = back }))
unfolding then fate
likewise-extend M S a n c ans back = likewise-edits a n (extension_in (fcb a n) 0 c) (eqb ans 0) (ltb n 8)

-- a call that was refused
pub likewise-refused : (M S : ℕ) (a : Ledger) (n b ans back : ℕ) → ans ≢ 0 → Likewise a (then M S a (record { made = asking n b; ans = ans; back = back }))
unfolding then
likewise-refused M S a n b ans back h = rw (ne_eqb ans 0 h) (likewise-puts a n (put 1 (one ans) ∷ []))

-- a call of one of the eight blocks
pub likewise-asked : (M S : ℕ) (x : Machine) (a : Ledger) (n b : ℕ) → Asked M S x a n b
    → Likewise (ledger_by a (called M S a n (asks a n b))) (then M S a (entry flex x (asking n b)))
likewise-asked M S x a n b k =
    subst (λ (y : Ledger). Likewise (ledger_by a (called M S a n (asks a n b))) y) (sym k.is)
    (likewise-puts (ledger_by a (called M S a n (asks a n b))) n (puts_by (ended (called M S a n (asks a n b)))))

-- THE HISTORY: after every list of plain calls
module _ (M S : ℕ) (z : Shape M S) where
  pub always : (cs : List Call) (x : Machine) (a : Ledger) → Fine M S x a → Plain (scenes M S a (log flex x cs))
      → Fine M S (run flex x cs) (history M S a (log flex x cs)) × Told (scenes M S a (log flex x cs))
  unfolding run log history scenes entry
  always [] x a f p = (f, tt)
  always (c ∷ cs) x a f p =
      let s = step M S z x a f c in
      let u = always cs (next flex x c) (then M S a (entry flex x c)) (s.fine p.0) p.1 in
      (u.0, (s.ans, s.byte, u.1))

-- ---- a start is fine, with the ledger of its image and its table

survey-answer : (y : Survey) → (a : ℕ) → survey_answer y ≡ a → (us : List ℕ) × (ws : List ℕ) × (y ≡ survey a us ws)
survey-answer (survey b us ws) a e = (us, ws, ap (λ (c : ℕ). survey c us ws) e)

module _ (x : Machine) (s : Start x) where
  abbrev M : ℕ
  M = last_track x.img

  abbrev S : ℕ
  S = per_track x.img

  surveyed : Sane x.img M S × Shaped x.img
  surveyed =
      let n = data_sectors x.img in
      let r = survey-answer (census x.img (zeros n) (zeros n)) 0 s.accepted in
      let q = census-is x.img (zeros n) (zeros n) 0 r.0 r.1 r.2 in
      (q.sane refl, q.shaped (omega arith))

  pub start-sane : Sane x.img M S
  start-sane = surveyed.0

  pub start-shape : Shape M S
  start-shape = surveyed.1.shape

  pub start-shaped : Sized M S x.img
  start-shaped = record { last = refl; per = refl; size = surveyed.1.long ∙ omega arith }

  pub start_fine : Fine M S x (begun x)
  start_fine =
      record {
        agrees = start-agrees M S start-shape x.img start-shaped s.bytes start-sane x.tab s.table (λ n h. s.closed n h);
        tidy = start-tidy M S start-shape x.img start-shaped s.bytes start-sane x.tab;
        formed = unfold ledger_of in formed-start x.tab;
      }
