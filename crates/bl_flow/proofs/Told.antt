-- What is kept stands alone, and two histories of which the same is kept tell the same.
use Rattle.std.proofs.Common.{◌≡◌, ℕ, zero, suc, ◌≤◌, Bool, false, List, ◌∷◌, length, map, refl, sym, ◌∙◌, ap, get_or}
use Rattle.bl_level.specs.Level.{SecurityLevel}
use Rattle.bl_setup.specs.Setup.{Setup}
use Rattle.bl_order.specs.Order.{Entry, unnamed}
use Rattle.bl_order.specs.Past.{place, earlier, policy_of, content_of}
use Rattle.bl_flow.specs.Flow.{StandsAlone, TellTheSame}
use Rattle.bl_flow.specs.Low.{History, AgreeLow, place_in, policy_in, content_in, is_low_document}
use Rattle.bl_flow.specs.Purge.{KeepTheSame, kept_before, kept_unnamed, kept_losses, purged}
use Rattle.bl_flow.specs.Sealed.{IsPossible, IsSealed}
use Rattle.bl_flow.proofs.Alone.{places-left, policies-left, contents-left}
use Rattle.bl_flow.proofs.Lawful.{possible-left}
use Rattle.bl_flow.proofs.LawsBelow.{LawsBelow}

-- what is kept stands alone
pub stands-alone : LawsBelow → (level : SecurityLevel) (h : History) (o : Setup) → IsPossible h → IsSealed level h → AgreeLow level h.setup o → StandsAlone level h o
stands-alone laws level h o possible sealed agree = record {
  possible = possible-left laws level h o possible sealed agree;
  places = places-left laws level h o possible sealed agree;
  policies = policies-left laws level h o possible sealed agree;
  contents = contents-left laws level h o possible sealed agree;
}

-- a setup agrees with itself
agree-itself : (level : SecurityLevel) (s : Setup) → AgreeLow level s s
agree-itself level s = record { policy = refl; version = refl; contents = λ doc h. refl }

-- the history of entries, of which these are lost
abbrev of_entries : Setup → List Entry → List Bool → History
of_entries o entries losses = record { setup = o; lost = λ n. get_or losses n false; order = entries }

-- a history without sessions and ordinals
abbrev unnamed_history : History → History
unnamed_history h = record { setup = h.setup; lost = h.lost; order = map unnamed h.order }

-- what is kept of the one and of the other, from one setup on, is one history without sessions and ordinals
pub purged-same : (level : SecurityLevel) (h g : History) (o : Setup) → KeepTheSame level h g
    → unnamed_history (purged level h o) ≡ unnamed_history (purged level g o)
purged-same level h g o alike =
    ap (λ entries. of_entries o entries (kept_losses level h)) alike.entries ∙ ap (of_entries o (kept_unnamed level g)) alike.losses

module _ (bear : (setup : Setup) (lost : ℕ → Bool) (order : List Entry) (n : ℕ) → place setup lost (map unnamed order) n ≡ place setup lost order n) where
  -- sessions and ordinals bear on no record before a place
  earlier-unnamed : (h : History) (n : ℕ) → earlier h.setup h.lost (map unnamed h.order) n ≡ earlier h.setup h.lost h.order n
  earlier-unnamed h zero = refl
  earlier-unnamed h (suc n) =
      ap (λ p. p ∷ earlier h.setup h.lost (map unnamed h.order) n) (bear h.setup h.lost h.order n)
      ∙ ap (λ before. place h.setup h.lost h.order n ∷ before) (earlier-unnamed h n)

  -- nor on the record of a place
  place-unnamed : (n : ℕ) (h : History) → place_in (unnamed_history h) n ≡ place_in h n
  place-unnamed n h = bear h.setup h.lost h.order n

  -- nor on the policy there
  policy-unnamed : (n : ℕ) (h : History) → policy_in (unnamed_history h) n ≡ policy_in h n
  policy-unnamed n h = ap (policy_of h.setup) (earlier-unnamed h n)

  -- nor on a content there
  content-unnamed : (doc n : ℕ) (h : History) → content_in (unnamed_history h) doc n ≡ content_in h doc n
  content-unnamed doc n h = ap (λ before. content_of h.setup before doc) (earlier-unnamed h n)

  module _ (alone : (level : SecurityLevel) (h : History) (o : Setup) → IsPossible h → IsSealed level h → AgreeLow level h.setup o → StandsAlone level h o) where
    -- two histories of which the same is kept tell the same, which is what that tells alone
    pub tell-the-same : (level : SecurityLevel) (h g : History) → IsPossible h → IsPossible g → IsSealed level h → IsSealed level g
        → AgreeLow level h.setup g.setup → KeepTheSame level h g → TellTheSame level h g
    tell-the-same level h g may can sealed shut agree alike = record {
      places = λ m n below under k i same.
          sym (one.places m below k) ∙ ap (place_in (purged level h g.setup)) same
          ∙ purged-tells (λ q. place_in q (kept_before level g n)) (place-unnamed (kept_before level g n)) ∙ two.places n under i;
      policies = policies;
      contents = λ m n doc below under same low.
          sym (one.contents m doc below low) ∙ ap (content_in (purged level h g.setup) doc) same
          ∙ purged-tells (λ q. content_in q doc (kept_before level g n)) (content-unnamed doc (kept_before level g n))
          ∙ two.contents n doc under (ap (λ q. is_low_document level q doc) (sym (policies m n below under same)) ∙ low);
    }
      where
        one : StandsAlone level h g.setup
        one = alone level h g.setup may sealed agree

        two : StandsAlone level g g.setup
        two = alone level g g.setup can shut (agree-itself level g.setup)

        -- what sessions and ordinals do not bear on is told alike by both that are left
        purged-tells : {X : Type 0} (tells : History → X) → ((q : History) → tells (unnamed_history q) ≡ tells q)
            → tells (purged level h g.setup) ≡ tells (purged level g g.setup)
        purged-tells tells rests =
            sym (rests (purged level h g.setup)) ∙ ap tells (purged-same level h g g.setup alike) ∙ rests (purged level g g.setup)

        policies : (m n : ℕ) → m ≤ length h.order → n ≤ length g.order → kept_before level h m ≡ kept_before level g n → policy_in h m ≡ policy_in g n
        policies m n below under same =
            sym (one.policies m below) ∙ ap (policy_in (purged level h g.setup)) same
            ∙ purged-tells (λ q. policy_in q (kept_before level g n)) (policy-unnamed (kept_before level g n)) ∙ two.policies n under
