-- The frame of such stores, proved (specs/Frame says what it is).
use Rattle.std.specs.Prelude.{List, [], ◌∷◌, ℕ, ◌+◌, ◌*◌, ◌≤◌, ◌<◌, length, get_or}
use Rattle.std.proofs.Common.{sym, subst}
use Rattle.rules.specs.Stores.{Store, store, stored}
use Rattle.rules.specs.Directory.{slots_of}
use Rattle.laws.specs.Each.{Each}
use Rattle.laws.specs.Stores.{Off, in_image, stored-laid, length-stored, stored-off}
use Rattle.chains.specs.Directory.{Listing}
use Rattle.chains.specs.Frame.{Address, Bytes, Frame, Lies, address-small, laid-small, off-aside, off-sector, off-shape, off-slot, off_head, piece_of}

module _ (M S : ℕ) (s5 : 5 ≤ S) (ds : List ℕ) (d : Listing M S ds) (s : ℕ) (hs : s < length (slots_of ds)) where
  abbrev o : ℕ
  o = get_or (slots_of ds) s 0

  all_small : (ks : List ℕ) (p : ℕ) → Address p → (ws : List Store) → Each (Lies S ds ks o) ws → Each (Bytes p) (in_image ws)
  all_small ks p g [] a = tt
  all_small ks p g (store k i vs ∷ ws) a = ((address-small M S s5 ds d s hs) ks (store k i vs) p g a.0, all_small ks p g ws a.1)

  all-off : (ks : List ℕ) (p : ℕ) → ((t : Store) → Lies S ds ks o t → Off p (piece_of t)) → (ws : List Store)
      → Each (Lies S ds ks o) ws → Each (Off p) (in_image ws)
  all-off ks p g [] a = tt
  all-off ks p g (store k i vs ∷ ws) a = (g (store k i vs) a.0, all-off ks p g ws a.1)

  -- THE FRAME of such stores
  pub framed : (m ks : List ℕ) (ws : List Store) → Each (Lies S ds ks o) ws → Frame S ds m (stored m ws) ks s
  framed m ks ws a =
      record {
        len = length-stored ws m;
        shape = λ p b c. stored-off ws m p (all-off ks p (λ t. (off-shape M S s5 ds d s hs) ks t p b c) ws a);
        heads = λ k i b c. stored-off ws m (256 * k + i) (all-off ks (256 * k + i) (λ t. (off_head M S s5 ds d s hs) ks t k i b c) ws a);
        slots = λ s' i h ne b. stored-off ws m (get_or (slots_of ds) s' 0 + i) (all-off ks (get_or (slots_of ds) s' 0 + i) (λ t. (off-slot M S s5 ds d s hs) ks t s' i h ne b) ws a);
        sectors = λ j i b n c e. stored-off ws m (256 * j + i) (all-off ks (256 * j + i) (λ t. (off-sector M S s5 ds d s hs) ks t j i b n c e) ws a);
        aside = λ p b c e. stored-off ws m p (all-off ks p (λ t. (off-aside M S s5 ds d s hs) ks t p b c e) ws a);
        small = λ p g h. subst (λ (x : List ℕ). get_or x p 0 < 256) (sym (stored-laid ws m)) (laid-small (in_image ws) m p (all_small ks p g ws a) h);
      }
