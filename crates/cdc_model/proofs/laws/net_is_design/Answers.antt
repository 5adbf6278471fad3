-- By the cofactors' own laws, and the lists of the net.
use Rattle.cdc_model.proofs.Found.{net_ascends}
use Rattle.cdc_model.proofs.GrayShape.{gray_reg_sound}
use Rattle.cdc_model.proofs.NetDesign.{net_trees_are, net_is_finite}
use Rattle.cdc_model.proofs.laws.net_is_design.Goals as goal

pub returns : goal.returns
returns c = record { trees = net_trees_are; finite = net_is_finite; registers = net_ascends; grays = gray_reg_sound }
