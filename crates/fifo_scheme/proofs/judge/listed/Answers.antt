-- The entries of a map are in its order.
use Rattle.std.proofs.Common.{◌≡◌, ◌∙◌, ◌++◌, ap, subst, map}
use Rattle.std.proofs.lemmas.Map.Iter.{rest_all}
use Rattle.cdc_model.specs.Ordered.{IsAscending}
use Rattle.fifo_laws.specs.Fifos.{bits_key}
use Rattle.fifo_scheme.specs.declared.found.Column.{Column}
use Rattle.fifo_scheme.specs.Met.{entry_column}
use Rattle.fifo_scheme.proofs.Gathered.{no_more}
use Rattle.fifo_scheme.proofs.MetOrder.{columns_ascend}
use Rattle.fifo_scheme.proofs.judge.listed.Goals as goal

pub returns-clause-ordered : goal.returns-clause-ordered
returns-clause-ordered c =
    let nothing = rest_all (λ x. x) c.loop-words.words-iterator c.next.new.self c.next.result c.in-None.is c.next.ensures.steps in
    let all : map entry_column c.args.values.entries ≡ c.loop-words.columns = c.loop-words.invariant ∙ ap (λ es. c.loop-words.columns ++ map entry_column es) nothing ∙ no_more c.loop-words.columns in
    subst (IsAscending (λ (x : Column). bits_key x.words)) all (columns_ascend c.args.values c.into_iter-words-iterator.ensures.into_iter_gives.5)
