-- The ports' rules over equal tables.
use Rattle.std.proofs.Common.{◌≡◌, ◌∙◌, ap, subst, List, Option, Result}
use Rattle.cdc_base.specs.declared.fault.Fault.{Fault}
use Rattle.cdc_base.specs.declared.fault.Stop.{Stop}
use Rattle.cdc_base.specs.declared.signal.Signal.{Signal}
use Rattle.clock_constraints.specs.declared.Constraints.{Constraints}
use Rattle.clock_constraints.specs.Refusals.{Text, Gives, unless}
use Rattle.domains.specs.declared.port.Port.{Port}
use Rattle.domains.specs.declared.port.Role.{Role}
use Rattle.domains.specs.Ports.{signal_roles}
use Rattle.domains.specs.Assignment.{broken_port}

pub same-ports : (f h : Text → Option Port) (ps qs : List (Text × Role)) (c : Constraints) → ((q : Text) → f q ≡ h q) → ps ≡ qs
    → broken_port f ps c ≡ broken_port h qs c
same-ports f h ps qs c same e =
    let tables : f ≡ h = λ i q. same q i in
    ap (λ (t : Text → Option Port). broken_port t ps c) tables ∙ ap (λ (rs : List (Text × Role)). broken_port h rs c) e

pub same-roles : (f h : Text → Option Role) (ss : List Signal) → ((q : Text) → f q ≡ h q) → signal_roles f ss ≡ signal_roles h ss
same-roles f h ss same = let tables : f ≡ h = λ i q. same q i in ap (λ (t : Text → Option Role). signal_roles t ss) tables

pub gives-same : {B : Type 0} (answer : Result B Stop) (o p : Option Fault) (r q : Result B Fault) → o ≡ p → r ≡ q → Gives answer (unless o r) → Gives answer (unless p q)
gives-same {B = B} answer o p r q e f h = subst (λ (b : Option Fault). Gives answer (unless b q)) e (subst (λ (s : Result B Fault). Gives answer (unless o s)) f h)
