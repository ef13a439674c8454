-- One life of a journal after another.
use Rattle.std.proofs.Common.{ℕ, List, [], ◌∷◌, ◌++◌, refl, ◌∙◌, subst}
use Rattle.bl_disk.proofs.Fronts.{itself, through}
use Rattle.bl_setup.specs.Setup.{Setup}
use Rattle.bl_journal.specs.Journals.{GoesOnFrom, IsHistory, IsRecovered, Journal, journal_text}
use Rattle.bl_journal.specs.Lives.{AreLives, GoesOnFromAll, IsLife, Life, found_after}

from-itself : (a : Journal) → GoesOnFrom a a
from-itself a = record { version = refl; limit = refl; events = itself a.events }

over : (a b c : Journal) → GoesOnFrom a b → GoesOnFrom b c → GoesOnFrom a c
over a b c first second = record {
  version = second.version ∙ first.version;
  limit = second.limit ∙ first.limit;
  events = through a.events b.events c.events first.events second.events;
}

module _ (setup : Setup)
    (kept : (kept found : Journal) (tail : List ℕ) → IsHistory setup kept → IsRecovered setup (journal_text setup kept ++ tail) found → GoesOnFrom kept found) where
  -- what is found of a life goes on from what it kept
  found-kept : (from : Journal) (life : Life) → IsLife setup from life → GoesOnFrom life.kept life.found
  found-kept from life l = kept life.kept life.found l.left.0 l.history (subst (λ f. IsRecovered setup f life.found) l.left.1 l.recovered)

  pub history : (from : Journal) (lives : List Life) → IsHistory setup from → AreLives setup from lives → IsHistory setup (found_after from lives)
  history from [] h are = h
  history from (life ∷ lives) h are = history life.found lives are.0.recovered.history are.1

  pub goes-on : (from : Journal) (lives : List Life) → AreLives setup from lives → GoesOnFrom from (found_after from lives)
  goes-on from [] are = from-itself from
  goes-on from (life ∷ lives) are =
      over from life.found (found_after life.found lives) (over from life.kept life.found are.0.goes_on (found-kept from life are.0)) (goes-on life.found lives are.1)

  pub goes-on-all : (from : Journal) (lives : List Life) → AreLives setup from lives → GoesOnFromAll lives (found_after from lives)
  goes-on-all from [] are = tt
  goes-on-all from (life ∷ lives) are = (
    over life.kept life.found (found_after life.found lives) (found-kept from life are.0) (goes-on life.found lives are.1),
    goes-on-all life.found lives are.1,
  )
