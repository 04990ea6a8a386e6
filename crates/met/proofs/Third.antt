-- DEMAND 3 of our service.
use Rattle.std.specs.Prelude.{◌≡◌, Bool, drop, length, replicate, eqb}
use Rattle.std.proofs.Math.Path.{refl, sym, ap}
use Rattle.std.proofs.Common.{ap₂, ◌∙◌, subst, arith, get_or-drop, length-drop, eq-eqb, ne_eqb}
use Rattle.std.proofs.Math.Bool.{true, false}
use mathlib.Core.List.{List, [], ◌∷◌, ◌++◌}
use Prim.Native.Nat.{ℕ, zero, suc, ◌+◌, ◌-◌, ◌*◌, ◌≤◌, ◌<◌}
use Rattle.std.proofs.Math.Decide.{ℕ_discrete}
use Rattle.std.proofs.Math.ListN.{get_or-eq_default, get_or}
use Rattle.std.proofs.lemmas.List.{get_or-replicate}
use Rattle.rules.specs.Bytes.{pick, part, flat}
use Rattle.rules.specs.Image.{last_track, per_track}
use Rattle.rules.specs.Directory.{live, slots_of, member, directory}
use Rattle.rules.specs.Census.{survey, census, listed, directory_owner, owners, tally as count}
use Rattle.laws.specs.Bytes.{part-is}
use Rattle.laws.specs.Slots.{live_at}
use Rattle.chains.specs.Once.{Once, once-length}
use Rattle.laws.specs.Addresses.{Shape}
use Rattle.chains.specs.Chain.{empty}
use Rattle.chains.specs.Directory.{directory-is, slots-append}
use Rattle.laws.specs.Counting.{once_is}
use Rattle.chains.specs.Walk.{length-numbers, data_of, once-complete}
use Rattle.demands.specs.Ledger.{Call, asking, File, no_file, Block, closed, listing, reading, writing, Ledger, asks, Fate, reply, gives, holds_open, activity, block, file, called, secs_of}
use Rattle.met.specs.Relation.{writes, Keeps, Agrees}
use Rattle.met.specs.Searches.{uses-is}
use Rattle.demands.specs.Diskette.{ledger_of, ledger_numbers, ledger_owners, file_at, files_at, owners_from}
use Rattle.met.specs.Survey.{files-at, files-are, listed-is, owners-is, ledger-free, ledger-dir, ledger-slots, numbers-back, sane-back, length-files}
use Rattle.demands.specs.Service.{flex, Machine, run, log, answers, gave}
use Rattle.demands.specs.History.{scenes, Told, Plain, unfinished, pending, shown_from, shown, buffered, standing, files_on, concat, had, ahead}
use Rattle.demands.specs.Demands.{Start, begun, told, past, Asks, places_of, Begins, Sound, Demand3}
use Rattle.met.specs.Joins.{run_more, history-more, plain_more}
use Rattle.met.proofs.Runs.{Fine, asked, always, start-shape, start_fine}
use Rattle.met.proofs.Sent.{called-zero, fits_one}
use Rattle.met.proofs.Got.{Fetched, byte, over, fetched}
use Rattle.met.specs.Changes.{Onward}
use Rattle.met.proofs.Rests.{Rests, rests-same}
use Rattle.met.specs.Picture.{entry-is, image-is}
use Rattle.met.specs.Forms.{table_is}
use Rattle.met.proofs.Stays.{then-onward, history-onward, slot-stood, free_stays, shows, fetches, stays, spared-entry, spared-chain, spared-sectors}
use Rattle.chains.specs.Addresses.{absurd-bool, census-sane}

first-left : (p : ℕ) (c : List ℕ) → get_or (drop p c) 0 0 ≡ get_or c p 0
first-left p c = get_or-drop p c 0 0 ∙ ap (λ (i : ℕ). get_or c i 0) (omega arith)

pub begins : (us ws vs : List ℕ) → vs ≡ us ++ ws → Begins us vs
begins us ws vs e = e ∙ ap (λ (l : List ℕ). us ++ l) (sym (ap (drop (length us)) e ∙ drop-append us ws))
  where
    drop-append : (us ws : List ℕ) → drop (length us) (us ++ ws) ≡ ws
    drop-append [] ws = refl
    drop-append (u ∷ us) ws = drop-append us ws

-- ---- of a machine that agrees with a ledger

module _ (M S : ℕ) (z : Shape M S) (y : Machine) (a : Ledger) (f : Fine M S y a) where
  r : Agrees M S y.img y.tab a
  r = f.agrees

  lists : (listed y.img M S ≡ ledger_numbers S a) × (owners y.img M S ≡ ledger_owners S a)
  lists =
      let p = ledger-free M S z y.img y.tab a r in
      let d = ledger-dir M S z y.img y.tab a r in
      let q = ledger-slots M S z y.img y.tab a r in (
        listed-is M S y.img y.tab ∙ numbers-back M S z y.img y.tab a r,
        owners-is M S y.img y.tab
            ∙ ap₂ (λ (u v : List ℕ). u ++ v) (ap (λ (u : List ℕ). replicate {A = ℕ} (length u) 0) p)
            (ap₂ (λ (u : List ℕ) (v : List File). replicate {A = ℕ} (length (data_of S u)) directory_owner ++ owners_from 1 v) d q),
      )

  -- the census accepts, and lists what the ledger has
  pub census-is : (xs ys : List ℕ) → length xs ≡ M * S → length ys ≡ M * S → census y.img xs ys ≡ survey 0 (ledger_numbers S a) (ledger_owners S a)
  census-is xs ys h k =
      census-sane M S z y.img r.shaped (sane-back M S z y.img y.tab a r f.tidy) xs ys h k ∙ ap₂ (λ (u v : List ℕ). survey 0 u v) lists.0 lists.1

  -- the free ones, the directory's, the files'
  abbrev sectors : Ledger → List ℕ
  sectors b = b.free ++ (data_of S b.dir ++ flat secs_of b.slots)

  pub once-each : (k : ℕ) → k < M * S → count k (ledger_numbers S a) ≡ 1
  once-each k h =
      once_is (M * S) (ledger_numbers S a) (once-complete M S (sectors a) r.once) k h

  pub no-others : length (ledger_numbers S a) ≡ M * S
  no-others =
      length-numbers S (sectors a) ∙ once-length S (M * S) (sectors a) (subst (λ (v : ℕ). Once S v (sectors a)) (omega arith) r.once)

  -- ---- files by name and bytes

  -- what a block that writes has in its buffer is what the ledger says is unfinished
  held : (n s : ℕ) → s < length (slots_of a.dir) → (b : Block) → Keeps S (slots_of a.dir) y.tab n a.slots b → holds_open false s b ≡ true
      → pick (eqb (get_or y.tab (320 * n + 34) 0) 0) [] (part y.tab (320 * n + 68) (get_or y.tab (320 * n + 34) 0 - 4)) ≡ unfinished b
  held n s hs closed k h = absurd (absurd-bool h refl)
  held n s hs (listing p) k h = absurd (absurd-bool h refl)
  held n s hs (reading t j i) k h = absurd (absurd-bool h refl)
  held n s hs (writing t ub) k h = go (ℕ_discrete (length ub) 0)
    where
      go : Dec (length ub ≡ 0)
          → pick (eqb (get_or y.tab (320 * n + 34) 0) 0) [] (part y.tab (320 * n + 68) (get_or y.tab (320 * n + 34) 0 - 4)) ≡ ub
      go (yes e) = rw (k.idle e) (sym (empty ub e))
      go (no e) =
          let b = k.busy (omega arith) in
          rw (ne_eqb (get_or y.tab (320 * n + 34) 0) 0 (omega (arith, b)))
          (part-is y.tab (320 * n + 68) (get_or y.tab (320 * n + 34) 0 - 4) ub (omega (arith, b))
          (λ i c. ap (λ (p : ℕ). get_or y.tab p 0) (omega arith) ∙ k.buffer (omega arith) i (omega (arith, c, b, k.short))))

  buffered-is : (s : ℕ) → s < length (slots_of a.dir) → (n : ℕ) → n ≤ 8 → buffered S y.tab (get_or (slots_of a.dir) s 0) n ≡ pending a.blocks s n
  unfolding buffered pending
  buffered-is s hs zero h = refl
  buffered-is s hs (suc n) h =
      let b = get_or a.blocks n closed in
      rw (uses-is M S z y.img y.tab a r false s hs n b (r.keeps n (omega arith)), buffered-is s hs n (omega arith))
      (go (holds_open false s (get_or a.blocks n closed)) refl)
    where
      go : (u : Bool) → holds_open false s (get_or a.blocks n closed) ≡ u
          → pick u (pick (eqb (get_or y.tab (320 * n + 34) 0) 0) [] (part y.tab (320 * n + 68) (get_or y.tab (320 * n + 34) 0 - 4))) (pending a.blocks s n)
          ≡ pick u (unfinished (get_or a.blocks n closed)) (pending a.blocks s n)
      go true e = held n s hs (get_or a.blocks n closed) (r.keeps n (omega arith)) e
      go false e = refl

  shown-list : (fs : List File) (k : ℕ) → ((i : ℕ) → i < length fs → buffered S y.tab (get_or fs i no_file).at 8 ≡ pending a.blocks (k + i) 8)
      → standing S y.tab fs ≡ shown_from a.blocks k fs
  unfolding standing shown_from
  shown-list [] k q = refl
  shown-list (g ∷ fs) k q =
      let bf : buffered S y.tab g.at 8 ≡ pending a.blocks k 8 = q 0 (omega arith) ∙ ap (λ (x : ℕ). pending a.blocks x 8) (omega arith) in
      let ih = shown-list fs (k + 1) (λ i b. q (suc i) (omega arith) ∙ ap (λ (x : ℕ). pending a.blocks x 8) (omega arith)) in
      rw (bf, ih) refl

  pub files-shown : files_on M S y.img y.tab ≡ shown a
  files-shown =
      ap (standing S y.tab) (ap (λ (x : List ℕ). files_at S y.img (slots_of x)) (directory-is M S z y.img a.dir r.listing r.dir).1 ∙ files-are M S z y.img y.tab a r)
      ∙ shown-list a.slots 0 (λ i h.
      let b : i < length (slots_of a.dir) = omega (arith, h, r.ns) in
      ap (λ (o : ℕ). buffered S y.tab o 8) (r.holds i b).at ∙ buffered-is i b 8 (omega arith) ∙ ap (λ (x : ℕ). pending a.blocks x 8) (omega arith))

  -- ---- a block that reads

  pub reader-next : (n b : ℕ) → Asks a n 0 → activity (block a n) ≡ 1
      → (answers flex y (asking n b) ≡ pick (eqb (length (ahead a (block a n))) 0) 8 0) × (gave flex y (asking n b) ≡ get_or (ahead a (block a n)) 0 0)
  reader-next n b q e = go (block a n) refl e
    where
      go : (o : Block) → block a n ≡ o → activity o ≡ 1
          → (answers flex y (asking n b) ≡ pick (eqb (length (ahead a o)) 0) 8 0) × (gave flex y (asking n b) ≡ get_or (ahead a o) 0 0)
      go closed o e = absurd (omega arith)
      go (listing p) o e = absurd (omega arith)
      go (writing s ub) o e = absurd (omega arith)
      go (reading s j i) o e =
          let φ = called-zero M S a n (asks a n b) (reading s j i) q.function q.drive o fits_one in
          let st = asked M S z y a f n b q.block in
          by s j i (called M S a n (asks a n b)) st.ans st.byte
          (subst (Fetched a n s (had j i) (concat (file a s).body)) (sym φ)
          (fetched M S z y a f n s (had j i) (concat (file a s).body) q.block (record { j = j; i = i; reader = o; pos = refl; bytes = refl }) (asks a n b)))
        where
          by : (s j i : ℕ) (ψ : Fate) → answers flex y (asking n b) ≡ reply ψ → gave flex y (asking n b) ≡ gives ψ
              → Fetched a n s (had j i) (concat (file a s).body) ψ
              → (answers flex y (asking n b) ≡ pick (eqb (length (ahead a (reading s j i))) 0) 8 0) × (gave flex y (asking n b) ≡ get_or (ahead a (reading s j i)) 0 0)
          by s j i ψ an gv (byte v a' ps h k u) =
              let l = length-drop (had j i) (concat (file a s).body) in (
                an ∙ sym (ap (λ (w : Bool). pick w 8 0) (ne_eqb (length (drop (had j i) (concat (file a s).body))) 0 (omega (arith, l)))),
                gv ∙ k ∙ sym (first-left (had j i) (concat (file a s).body)),
              )
          by s j i ψ an gv (over h) =
              let l = length-drop (had j i) (concat (file a s).body) in (
                an ∙ sym (ap (λ (w : Bool). pick w 8 0) (eq-eqb (length (drop (had j i) (concat (file a s).body))) 0 (omega (arith, l)))),
                gv ∙ sym (first-left (had j i) (concat (file a s).body) ∙ get_or-eq_default (concat (file a s).body) 0 h),
              )

-- ---- the demand

module _ (x : Machine) (s : Start x) where
  abbrev M : ℕ
  M = last_track x.img

  abbrev S : ℕ
  S = per_track x.img

  abbrev a : Ledger
  a = begun x

  at_rest : (i : ℕ) → i < length (slots_of a.dir) → live x.img (get_or (slots_of a.dir) i 0) ≡ true → Rests a i (file_at S x.img (get_or (slots_of a.dir) i 0))
  unfolding ledger_of file_at
  at_rest i h v =
      record {
        is = files-at S x.img (slots_of a.dir) i h;
        low = omega (arith, length-files S x.img (slots_of a.dir));
        alive = sym (live_at x.img (part x.img (get_or (slots_of a.dir) i 0) 11) (get_or (slots_of a.dir) i 0) refl) ∙ v;
        quiet = λ m hm w. omega (arith, w, ap writes (get_or-replicate {A = Block} 8 m closed closed hm));
      }

  module _ (cs : List Call) (pl : Plain (past flex x cs)) where
    abbrev y : Machine
    y = run flex x cs

    abbrev h : Ledger
    h = told flex x cs

    f : Fine M S y h × Told (scenes M S a (log flex x cs))
    f = always M S (start-shape x s) cs x a (start_fine x s) pl

    on : Onward S a h
    on = history-onward M S (start-shape x s) cs x a (start_fine x s) pl

    here : directory y.img M S ≡ h.dir
    here = (directory-is M S (start-shape x s) y.img h.dir f.0.agrees.listing f.0.agrees.dir).1

    -- the slots of the start, where they stood
    stood : Begins (slots_of a.dir) (slots_of h.dir)
    stood = begins (slots_of a.dir) (slots_of on.ks) (slots_of h.dir) (ap slots_of on.dir ∙ slots-append a.dir on.ks)

    -- where the history has the slots
    at_places : (fs : List File) (os : List ℕ) → length fs ≡ length os → ((i : ℕ) → i < length os → (get_or fs i no_file).at ≡ get_or os i 0) → os ≡ places_of fs
    at_places [] [] e q = refl
    at_places [] (o ∷ os) e q = absurd (omega arith)
    at_places (g ∷ fs) [] e q = absurd (omega arith)
    at_places (g ∷ fs) (o ∷ os) e q = ap₂ (λ (u : ℕ) (v : List ℕ). u ∷ v) (sym (q 0 (omega arith))) (at_places fs os (omega arith) (λ i b. q (suc i) (omega arith)))

    pub sound : Sound flex x cs
    unfolding file_at ledger_of
    sound =
        let z = start-shape x s in
        let r = f.0.agrees in
        record {
          answered = f.1;
          image = image-is M S z y.img y.tab h r;
          table = table_is y.tab h.fcbs f.0.formed r.tlen;
          accepted = λ xs ys. census-is M S z y h f.0 xs ys;
          each_once = once-each M S z y h f.0;
          no_more = no-others M S z y h f.0;
          sectors = here;
          places = ap slots_of here ∙ at_places h.slots (slots_of h.dir) r.ns (λ i b. (r.holds i b).at);
          stood = rw here stood;
          keeps = λ c p.
              let w = then-onward M S z y h f.0 c in
              begins h.dir w.ks (told flex x (cs ++ c ∷ [])).dir (ap (λ (l : Ledger). l.dir) (history-more M S flex cs x a c) ∙ w.dir);
          entries = λ i. rw here (λ b. entry-is M S z y.img y.tab h r i b);
          files = files-shown M S z y h f.0;
          readers = λ n b q e. reader-next M S z y h f.0 n b q e;
          lists = λ n b p q e l. shows M S z y h f.0 n b p q e l;
          fetches = λ n b q e l. fetches M S z y h f.0 n b q e l;
          stays = λ p at w k l. stays M S z x.img x.tab y.img y.tab a h (start_fine x s).agrees r on refl p w k l at;
          rests = λ c p k u v.
              ap (λ (w : Machine). part w.img (256 * k + 2) 254) (run_more M S flex cs x a c)
              ∙ free_stays M S z y h f.0 c (plain_more M S flex cs x a c p) k u (ap (λ (w : Ledger). member k w.free) (sym (history-more M S flex cs x a c)) ∙ v);
          spared = λ i b v u.
              let g = at_rest i b v in
              let q = rests-same M S z cs x a (start_fine x s) i (file_at S x.img (get_or (slots_of a.dir) i 0)) g pl u in
              let e : file h i ≡ file a i = q.is ∙ sym g.is in
              let l : live (file a i).name 0 ≡ true = ap (λ (k : File). live k.name 0) g.is ∙ g.alive in
              let r0 = (start_fine x s).agrees in
              let t = slot-stood S a h on i b in
              record {
                slot = spared-entry M S z x.img x.tab y.img y.tab a h r0 r i b t.0 t.1 (file a i).name e l l refl;
                sectors = spared-chain M S z x.img x.tab y.img y.tab a h r0 r i b t.0 t.1 (file a i).name e l l;
                bytes = spared-sectors M S z x.img x.tab y.img y.tab a h r0 r i b t.0 t.1 (file a i).name e l l;
              };
        }

pub demand3 : Demand3 flex
demand3 x s cs pl = sound x s cs pl
