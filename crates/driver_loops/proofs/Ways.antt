-- What links lead to.
use Rattle.std.proofs.Common.{ℕ, List}
use Rattle.std.specs.List.{Contains}
use Rattle.driver_loops.specs.Orders.{Reaches, here, link, IsClosed}

pub reaches-trans : (ls : List (List ℕ)) (v u w : ℕ) → Reaches ls v u → Reaches ls u w → Reaches ls v w
reaches-trans ls v u w first here = first
reaches-trans ls v u w first (link {u = x} more l) = link (reaches-trans ls v u x first more) l

-- what is closed under links has all that its vertices lead to
pub closed_reaches : (ls : List (List ℕ)) (vs : List ℕ) (v w : ℕ) → IsClosed ls vs → Contains vs v → Reaches ls v w → Contains vs w
closed_reaches ls vs v w closed h here = h
closed_reaches ls vs v w closed h (link {u = x} more l) = closed x w (closed_reaches ls vs v x closed h more) l
