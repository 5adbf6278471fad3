use Rattle.fifo_laws.proofs.FlipAll.{all_flip}
use Rattle.fifo_laws.proofs.FlipRoom.{room_of}
use Rattle.fifo_laws.proofs.fifos_flip.Goals as goal

pub returns : goal.returns
returns c = λ d tree t syncs grays rings fifos lists are edges old new step keeps facts calm x reg ticking flips loose.
    all_flip d tree t syncs grays lists rings edges old new step facts x reg flips loose fifos (λ f i. (are f i, room_of d tree t syncs grays lists f (are f i) old (keeps f i (are f i)) rings facts))
