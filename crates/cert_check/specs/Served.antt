-- The crossings that items serve, and what a walk over all crossings finds.
use Rattle.std.specs.Prelude.{◌≡◌, ℕ, List, [], ◌∷◌, ◌++◌, map, length, Contains}
use Rattle.cdc_base.specs.declared.bit.Bit.{Bit}
use Rattle.cdc_model.specs.declared.scheme.Crossing.{Crossing}
use Rattle.cdc_model.specs.declared.scheme.Load.{Load}
use Rattle.cdc_model.specs.declared.scheme.Sync.{Sync as SyncEntry}
use Rattle.cert_check.specs.declared.served.Passage.{Passage}
use Rattle.cert_check.specs.declared.served.Walked.{Walked}
use Rattle.cert_check.specs.declared.served.Walked.TheVariants.{Bare, Served}

-- the crossing from a source into the first of the flops
abbrev pub passages_into : Bit → List Bit → List Passage
passages_into from [] = []
passages_into from (f ∷ fs) = record { to = f; from = from } ∷ []

-- the crossings of listed synchronizers
abbrev pub sync_passages : List SyncEntry → List Passage
sync_passages [] = []
sync_passages (s ∷ ss) = passages_into s.from s.flops ++ sync_passages ss

-- those of loads
abbrev pub load_passages : List Load → List Passage
load_passages = map (λ l. record { to = l.to; from = l.from })

-- those of a list
abbrev pub crossing_passages : List Crossing → List Passage
crossing_passages = map (λ k. record { to = k.to; from = k.from })

-- all that are served: those of synchronizers, of loads and of others
abbrev pub passages : List SyncEntry → List Load → List Crossing → List Passage
passages syncs loads extra = (sync_passages syncs ++ load_passages loads) ++ crossing_passages extra

-- the crossing is served
abbrev pub HasPassage : List Passage → Crossing → Type 0
HasPassage served k = Contains served (record { to = k.to; from = k.from })

abbrev pub HavePassages : List Passage → List Crossing → Type 0
HavePassages served ks = (k : Crossing) → Contains ks k → HasPassage served k

-- all crossings are those walked over, which are served and as many, and those to come
abbrev pub AreWalked : List Passage → List Crossing → List Crossing → ℕ → Type 0
AreWalked served all rest n = (done : List Crossing) × (all ≡ done ++ rest) × HavePassages served done × (n ≡ length done)

-- the first crossing that isn't served, or how many there are where all are
abbrev pub IsWalked : List Passage → List Crossing → Walked → Type 0
IsWalked served ks (Bare k) = (before after : List Crossing) × (ks ≡ before ++ k ∷ after) × HavePassages served before × (HasPassage served k → ⊥)
IsWalked served ks (Served n) = HavePassages served ks × (n ≡ length ks)
