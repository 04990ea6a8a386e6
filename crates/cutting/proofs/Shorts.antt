-- What a call leaves that is cut short: what comes of the file of the call.
use Rattle.std.specs.Prelude.{◌≡◌, refl, ◌≢◌, ◌⊎◌, true, List, [], ◌∷◌, ◌++◌, ℕ, zero, suc, ◌+◌, ◌*◌, ◌/◌, ◌≤◌, ◌<◌, length, take}
use Rattle.std.proofs.Common.{sym, ap, ◌∙◌, subst, inl, inr, arith, length-append, ext_get_or}
use Rattle.std.proofs.Math.Decide.{ℕ_discrete, dec_lt}
use Rattle.std.proofs.lemmas.List.{take-append-le}
use Rattle.rules.specs.Bytes.{byte_at, part, two, zeros}
use Rattle.rules.specs.Stores.{Store, store, stored}
use Rattle.rules.specs.Image.{adr}
use Rattle.rules.specs.Directory.{last_of, member, chain_record}
use Rattle.laws.specs.Bytes.{part_same, length-zeros, length-six}
use Rattle.laws.specs.Each.{Each, each_right, each_take}
use Rattle.laws.specs.Small.{Small, small-zeros}
use Rattle.laws.specs.Stores.{Inside, SmallStore, stored-off, length-stored}
use Rattle.laws.specs.Addresses.{Shape}
use Rattle.chains.specs.Tally.{tally, member-in, member-no, in-member}
use Rattle.chains.specs.Chain.{tally-last}
use Rattle.demands.specs.Ledger.{Call, Ledger}
use Rattle.demands.specs.Service.{flex, Machine, next, SendsByte}
use Rattle.demands.specs.Demands.{sectors_in}
use Rattle.demands.specs.Repairs.{SameSector}
use Rattle.demands.specs.Cuts.{in_order, stores_of, CutShort, stopped, unlisted, listed}
use Rattle.met.specs.Relation.{Agrees}
use Rattle.met.proofs.Runs.{Fine}
use Rattle.cutting.specs.Kinds.{Matters, Intact, Harmless, Staged, none, lone, early, grows, Longer, Comes, before, between, after}
use Rattle.cutting.specs.Harms.{directory-matters, record-harmless}
use Rattle.cutting.specs.Shorts.{Into, all-comes, all_new, besides-kept, call-inside, cleared-free, harmless-intact, intact-same, into-last, into-own, kept, listed-are, next-image, next_small, old-sector, one-sector, record-small, sector-byte}

module _ (M S : ℕ) (z : Shape M S) (img tab : List ℕ) (a : Ledger) (r : Agrees M S img tab a) (small : Small img) where
  record-free : (fr : List ℕ) → Harmless S a (store 2 29 (chain_record S fr))
  unfolding chain_record
  record-free fr = record-harmless M S z img tab a r (chain_record S fr) (length-six _ _ _)

  -- the first k stores, while the last is missing
  missing : (ss : List Store) → Staged S a ss → (k : ℕ) → k < length ss
      → Intact S a img (stored img (take k ss)) ⊎ Longer S a img (stored img (take k ss)) (stored img ss)
  missing ss none k b = absurd (omega arith)
  missing ss (lone s) zero b = inl (intact-same S a img img small refl)
  missing ss (lone s) (suc k) b = absurd (omega arith)
  missing ss (early us s h t d) k b =
      let e : take k (us ++ s ∷ []) ≡ take k us = take-append-le k us (s ∷ []) (omega (arith, length-append us (s ∷ []))) in
      inl (rw e (harmless-intact S a img (take k us) small (each_take SmallStore k us t) (each_take (Harmless S a) k us h)))
  missing ss (grows k fr entry e l) zero b = inl (intact-same S a img img small refl)
  missing ss (grows k fr entry e l) (suc zero) b = inl (harmless-intact S a img (take 1 ss) small ((record-small M S z img tab a r small) fr, tt) (record-free fr, tt))
  missing ss (grows k fr entry e l) (suc (suc zero)) b =
      inl (harmless-intact S a img (take 2 ss) small ((record-small M S z img tab a r small) fr, (small-zeros 256, tt))
      (record-free fr, ((cleared-free M S z img tab a r small) k fr e 0 (zeros 256) (omega (arith, length-zeros 256)), tt)))
  missing ss (grows k fr entry e l) (suc (suc (suc zero))) b = inr (record { taken = k; rest = fr; free = e; is = refl; entry = entry; long = l; filled = refl })
  missing ss (grows k fr entry e l) (suc (suc (suc (suc j)))) b = absurd (omega arith)

  -- of what matters the stores cover bytes of one sector of the directory; or there is one store at most
  staged-into : (ss : List Store) → Staged S a ss → Each (Inside (length img)) ss
      → Into S a ss ⊎ ((d : ℕ) × ((p : ℕ) → p / 256 ≢ d → byte_at (stored img ss) p ≡ byte_at img p))
  staged-into ss none b = inr (0, λ p ne. refl)
  staged-into ss (lone (store k i vs)) b = inr (k, λ p ne. stored-off (store k i vs ∷ []) img p (into-own (length img) k i vs p b.0 ne, tt))
  staged-into ss (early us s h t d) b = inl (into-last S a (length img) us s h d (each_right (Inside (length img)) us (s ∷ []) b).0)
  staged-into ss (grows k fr entry e l) b = inl (record {
    sector = last_of a.dir 4;
    listed = tally-last a.dir 4 r.listing.some;
    besides = (
      (λ p q ne. record-free fr p q),
      (
        (λ p q ne. (cleared-free M S z img tab a r small) k fr e 0 (zeros 256) (omega (arith, length-zeros 256)) p q),
        (
          (λ p q ne. into-own (length img) (last_of a.dir 4) 0 (two (adr S k)) p b.1.1.0 ne),
          ((λ p q ne. (cleared-free M S z img tab a r small) k fr e 16 entry (omega arith) p q), tt),
        ),
      ),
    );
  })

  -- of the directory's sectors at most one changes
  one-listed : (ss : List Store) → Staged S a ss → Each (Inside (length img)) ss
      → (d : ℕ) × ((k : ℕ) → 1 ≤ tally k a.dir → k ≢ d → SameSector k (stored img ss) img)
  one-listed ss g b = go (staged-into ss g b)
    where
      by : (d : ℕ) → ((p : ℕ) → Matters S a p → p / 256 ≢ d → byte_at (stored img ss) p ≡ byte_at img p) → (k : ℕ) → 1 ≤ tally k a.dir → k ≢ d
          → SameSector k (stored img ss) img
      by d h k t ne =
          part_same img (stored img ss) (256 * k) (256 * k) 256
          (λ i c. let e : (256 * k + i) / 256 ≡ k = omega arith in h (256 * k + i) (directory-matters S a k (256 * k + i) t e) (λ q. ne (sym e ∙ q)))

      go : Into S a ss ⊎ ((d : ℕ) × ((p : ℕ) → p / 256 ≢ d → byte_at (stored img ss) p ≡ byte_at img p))
          → (d : ℕ) × ((k : ℕ) → 1 ≤ tally k a.dir → k ≢ d → SameSector k (stored img ss) img)
      go (inl w) = (w.sector, by w.sector (besides-kept S a img w.sector ss w.besides))
      go (inr w) = (w.0, by w.0 (λ p m ne. w.1 p ne))

  module _ (ss : List Store) (small' : Small (stored img ss)) (m : List ℕ) (long : length m ≡ length img)
      (v : (k : ℕ) → SameSector k m img ⊎ SameSector k m (stored img ss)) where
    module _ (w : Into S a ss) where
      new-sector : SameSector w.sector m (stored img ss) → ((k : ℕ) → tally k a.dir ≡ 0 → SameSector k m (stored img ss)) → m ≡ stored img ss
      new-sector e others = ext_get_or 0 m (stored img ss) (long ∙ sym (length-stored ss img)) (λ p b. go p (ℕ_discrete (tally (p / 256) a.dir) 0))
        where
          go : (p : ℕ) → Dec (tally (p / 256) a.dir ≡ 0) → byte_at m p ≡ byte_at (stored img ss) p
          go p (yes t) = sector-byte img (stored img ss) m v w.sector (Matters S a) (kept M S z img tab a r small ss small' m long v w) (stored img ss) p (others (p / 256) t)
          go p (no t) = all_new img (stored img ss) m v w.sector (Matters S a) (kept M S z img tab a r small ss small' m long v w) e p (directory-matters S a (p / 256) p (omega (arith, t)) refl)

    copied : ((k : ℕ) → 1 ≤ tally k a.dir → SameSector k m img) ⊎ ((k : ℕ) → tally k a.dir ≡ 0 → SameSector k m (stored img ss))
        → Staged S a ss → Each (Inside (length img)) ss → Intact S a img m ⊎ (m ≡ stored img ss)
    copied o g b = go o (staged-into ss g b)
      where
        by : (w : Into S a ss) → ((k : ℕ) → tally k a.dir ≡ 0 → SameSector k m (stored img ss))
            → SameSector w.sector m img ⊎ SameSector w.sector m (stored img ss) → Intact S a img m ⊎ (m ≡ stored img ss)
        by w h (inl e) = inl ((old-sector M S z img tab a r small ss small' m long v) w e)
        by w h (inr e) = inr (new-sector w e h)

        whole : (m ≡ img) ⊎ (m ≡ stored img ss) → Intact S a img m ⊎ (m ≡ stored img ss)
        whole (inl e) = inl (intact-same S a img m small e)
        whole (inr e) = inr e

        go : ((k : ℕ) → 1 ≤ tally k a.dir → SameSector k m img) ⊎ ((k : ℕ) → tally k a.dir ≡ 0 → SameSector k m (stored img ss))
            → Into S a ss ⊎ ((d : ℕ) × ((p : ℕ) → p / 256 ≢ d → byte_at (stored img ss) p ≡ byte_at img p)) → Intact S a img m ⊎ (m ≡ stored img ss)
        go (inl h) (inl w) = inl ((old-sector M S z img tab a r small ss small' m long v) w (h w.sector w.listed))
        go (inr h) (inl w) = by w h (v w.sector)
        go h (inr w) = whole ((one-sector M S z img tab a r small ss small' m long v) w.0 w.1)

module _ (M S : ℕ) (z : Shape M S) (y : Machine) (a : Ledger) (f : Fine M S y a) (small : Small y.img) (c : Call)
    (g : Staged S a (stores_of in_order y c)) where
  -- while the last is missing: what matters is there; or the directory has grown. Whatever is sent
  pub nothing-comes : (k : ℕ) → k < length (stores_of in_order y c)
      → Intact S a y.img (stored y.img (take k (stores_of in_order y c))) ⊎ Longer S a y.img (stored y.img (take k (stores_of in_order y c))) (next flex y c).img
  nothing-comes k b = rw (next-image y c) (missing M S z y.img y.tab a f.agrees small (stores_of in_order y c) g k b)

  pub one-changes : (d : ℕ) × ((k : ℕ) → member k (sectors_in y y.img) ≡ true → k ≢ d → SameSector k (next flex y c).img y.img)
  one-changes =
      let o = one-listed M S z y.img y.tab a f.agrees small (stores_of in_order y c) g (call-inside y c) in (
        o.0,
        λ k t ne. ap (λ (w : List ℕ). part w (256 * k) 256) (next-image y c)
            ∙ o.1 k (in-member k a.dir (ap (member k) (sym (listed-are M S z y a f small c g)) ∙ t)) ne,
      )

  from-copy : Small (stored y.img (stores_of in_order y c)) → (m : List ℕ) → length m ≡ length y.img
      → ((k : ℕ) → SameSector k m y.img ⊎ SameSector k m (next flex y c).img)
      → ((k : ℕ) → 1 ≤ tally k a.dir → SameSector k m y.img) ⊎ ((k : ℕ) → tally k a.dir ≡ 0 → SameSector k m (next flex y c).img)
      → Comes S y a c m
  from-copy small' m l =
      subst (λ (img' : List ℕ). ((k : ℕ) → SameSector k m y.img ⊎ SameSector k m img')
      → ((k : ℕ) → 1 ≤ tally k a.dir → SameSector k m y.img) ⊎ ((k : ℕ) → tally k a.dir ≡ 0 → SameSector k m img') → Comes S y a c m)
      (sym (next-image y c)) go
    where
      ss : List Store
      ss = stores_of in_order y c

      by : Intact S a y.img m ⊎ (m ≡ stored y.img ss) → Comes S y a c m
      by (inl h) = before h
      by (inr h) = after (h ∙ sym (next-image y c))

      go : ((k : ℕ) → SameSector k m y.img ⊎ SameSector k m (stored y.img ss))
          → ((k : ℕ) → 1 ≤ tally k a.dir → SameSector k m y.img) ⊎ ((k : ℕ) → tally k a.dir ≡ 0 → SameSector k m (stored y.img ss))
          → Comes S y a c m
      go v o = by (copied M S z y.img y.tab a f.agrees small ss small' m l v o g (call-inside y c))

  pub short-comes : Small y.tab → SendsByte c → (m : List ℕ) → CutShort in_order y (next flex y c) c m → Comes S y a c m
  short-comes t b m (stopped k e) = go (dec_lt k (length (stores_of in_order y c)))
    where
      by : Intact S a y.img (stored y.img (take k (stores_of in_order y c)))
          ⊎ Longer S a y.img (stored y.img (take k (stores_of in_order y c))) (next flex y c).img → Comes S y a c m
      by (inl h) = before (subst (Intact S a y.img) (sym e) h)
      by (inr h) = between (subst (λ (w : List ℕ). Longer S a y.img w (next flex y c).img) (sym e) h)

      go : Dec (k < length (stores_of in_order y c)) → Comes S y a c m
      go (yes h) = by (nothing-comes k h)
      go (no h) = after (e ∙ all-comes y c k (omega (arith, h)))
  short-comes t b m (unlisted l v d) =
      from-copy (next_small y small t c b) m l v (inl (λ k q. d k (ap (member k) (listed-are M S z y a f small c g) ∙ member-in k a.dir q)))
  short-comes t b m (listed l v d) =
      from-copy (next_small y small t c b) m l v (inr (λ k q. d k (ap (member k) (listed-are M S z y a f small c g) ∙ member-no k a.dir q)))
