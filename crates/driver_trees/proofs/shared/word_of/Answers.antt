-- A giver's tree, or the register's own.
use Rattle.std.proofs.Common.{rules, ◌≡◌, length, Some, None, slice_get, refl, sym, ap, ◌∙◌, arith}
use Rattle.std.proofs.lemmas.Option.{slice_get_read, slice_get_past}
use Rattle.driver_trees.proofs.Growing.{ok-map}
use Rattle.driver_trees.proofs.Stays.{grows_not}
use Rattle.driver_trees.proofs.shared.word_of.Goals as goal

pub returns-in-Some : goal.returns-in-Some
returns-in-Some c = record {
  built = λ wid words numbers drafts is some most given.
      let gs = c.args.givers.now in let k = c.args.giver in let g = c.in-Some.giver.now in
      let at : slice_get gs k ≡ Some g = slice_get_read gs (length gs) k g refl (search rules) (search rules) in
      record { grows = grows_not wid c.args.drafts.now drafts; place = given.places k g at; tree = given.trees k g at };
}

pub returns-in-None : goal.returns-in-None
returns-in-None c = record {
  built = λ wid words numbers drafts is some most given.
      let gs = c.args.givers.now in let k = c.args.giver in let x = c.args.sig in
      let none : slice_get gs k ≡ None = slice_get_past gs k (search rules) in
      ok-map c.read.result (λ id b. record {
        grows = b.grows;
        place = (b.place.0, b.place.1 ∙ is);
        tree = λ sel. b.tree sel ∙ ap (λ n. sel x 0 n) is ∙ sym (given.own k none sel);
      }) (c.read.ensures.built wid drafts some (omega (arith, is)) (omega (arith, is, most)));
}
