use Rattle.std.proofs.Common.{subst, Option, Bool}
use Rattle.cdc_base.specs.declared.bit.Bit.{Bit}
use Rattle.cell_graph.specs.Tree.{bit}
use Rattle.cell_graph.proofs.Sound.{Knows, IsBit, known_sound, same_sound, reads_sound}
use Rattle.cell_graph.proofs.OriginSound.{origin_sound}
use Rattle.cell_graph.proofs.laws.cofactors_are_sound.Goals as goal

pub returns-clause-known : goal.returns-clause-known
returns-clause-known c = λ cube r t i v m e. subst (λ (o : Option Bool). Knows o (bit r t i)) e (known_sound cube r m t i)

pub returns-clause-same : goal.returns-clause-same
returns-clause-same c = λ cube r t i b m e. subst (λ (o : Option Bit). IsBit r o (bit r t i)) e (same_sound cube r m t i)

pub returns-clause-reads : goal.returns-clause-reads
returns-clause-reads c = λ cube r q t i m n agree. reads_sound cube r q m n t i agree

pub returns-clause-origin : goal.returns-clause-origin
returns-clause-origin c = λ r t i. origin_sound r t i
