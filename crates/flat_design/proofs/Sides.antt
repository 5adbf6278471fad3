-- The directions of ports.
use Rattle.std.proofs.Common.{◌≡◌, Bool, true, false, cond, not, ◌&&◌, List, [], ◌∷◌, ◌++◌, map, Option, Some, None, refl, sym, ap, ◌∙◌}
use Rattle.std.specs.Prelude.{is_some, bytes_eq}
use Rattle.cdc_base.specs.declared.fault.Place.{Place}
use Rattle.cdc_base.specs.Words.{is_in}
use Rattle.verilog_ast.specs.declared.DeclKind.{DeclKind}
use Rattle.verilog_ast.specs.declared.DeclKind.TheVariants as k
use Rattle.verilog_reading.specs.SourceTree.{DeclTree, ModuleTree}
use Rattle.flat_unfolding.specs.Outcome.{Text}
use Rattle.flat_unfolding.specs.Declarations.{direction_of, is_inner, header_of, header_decls, item_decls}
use Rattle.flat_unfolding.specs.Instances.{first_direction, port_direction}
use Rattle.flat_design.specs.Visiting.{side_of, side_of_kind, awaits, sides_with}

sides-known : (ds : List DeclTree) (x : Text) (o : Option (Option Bool)) → awaits o ≡ false → sides_with ds x o ≡ o
sides-known [] x o e = refl
sides-known (d ∷ ds) x o e =
    ap (λ b. sides_with ds x (cond (b && (is_some (side_of_kind d.kind) && bytes_eq d.name x)) (Some (side_of_kind d.kind)) o)) e ∙ sides-known ds x o e

sides-are : (ds : List DeclTree) (x : Text) → sides_with ds x (Some None) ≡ Some (side_of (first_direction x ds))
sides-are [] x = refl
sides-are (d ∷ ds) x = go d.kind (bytes_eq d.name x) (sides-are ds x)
  where
    go : (kind : DeclKind) (b : Bool) → sides_with ds x (Some None) ≡ Some (side_of (first_direction x ds)) → sides_with ds x (cond (true && (is_some (side_of_kind kind) && b)) (Some (side_of_kind kind)) (Some None))
        ≡ Some (side_of (cond (b && not (is_inner (direction_of kind))) (Some (direction_of kind)) (first_direction x ds)))
    go k.Input true ih = sides-known ds x (Some (Some true)) refl
    go k.Output true ih = sides-known ds x (Some (Some false)) refl
    go k.OutputReg true ih = sides-known ds x (Some (Some false)) refl
    go k.Wire true ih = ih
    go k.Reg true ih = ih
    go k.Input false ih = ih
    go k.Output false ih = ih
    go k.OutputReg false ih = ih
    go k.Wire false ih = ih
    go k.Reg false ih = ih

sides-both : (first bs : List DeclTree) (x : Text) (o : Option (Option Bool)) → sides_with (first ++ bs) x o ≡ sides_with bs x (sides_with first x o)
sides-both [] bs x o = refl
sides-both (a ∷ first) bs x o = sides-both first bs x (cond (awaits o && (is_some (side_of_kind a.kind) && bytes_eq a.name x)) (Some (side_of_kind a.kind)) o)

if-port : (ds : List DeclTree) (x : Text) (b : Bool) → sides_with ds x (cond b (Some None) None) ≡ cond b (Some (side_of (first_direction x ds))) None
if-port ds x true = sides-are ds x
if-port ds x false = sides-known ds x None refl

-- the ports of a module, once its header's names and all its declarations are read
pub ports-are : (m : ModuleTree) (x : Text) (o p q : Option (Option Bool)) → o ≡ cond (is_in (header_of m) x) (Some None) None → p ≡ sides_with (header_decls m) x o
    → q ≡ sides_with (map (λ (d : Place × DeclTree). d.1) (item_decls m)) x p → q ≡ cond (is_in (header_of m) x) (Some (side_of (port_direction m x))) None
ports-are m x o p q e f g =
    let items = map (λ (d : Place × DeclTree). d.1) (item_decls m) in
    g ∙ ap (sides_with items x) (f ∙ ap (sides_with (header_decls m) x) e)
    ∙ sym (sides-both (header_decls m) items x (cond (is_in (header_of m) x) (Some None) None))
    ∙ if-port (header_decls m ++ items) x (is_in (header_of m) x)
