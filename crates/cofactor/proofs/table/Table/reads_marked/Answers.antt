use Rattle.std.proofs.Common.{◌∙◌, ap, sym, subst, List, ℕ}
use Rattle.std.specs.List.{Contains}
use Rattle.cofactor.specs.Marks.{marked}
use Rattle.cofactor.specs.Shown.{Shows}
use Rattle.cofactor.proofs.MarkLists.{marked-none}
use Rattle.cofactor.proofs.table.Table.reads_marked.Goals as goal

pub walk-requires : goal.walk-requires
walk-requires c = λ place. ap (λ (words : List ℕ). marked words place) c.in_ok-met.ensures ∙ marked-none c.row_count.result place

pub returns-clause-exact : goal.returns-clause-exact
returns-clause-exact c = λ cube well is shows b.
    let walked = c.in_ok-met-2.ensures cube well is (λ id below. subst (λ t. Shows c.args.net.now.graph cube t id) (sym c.self.view_is) (shows id below)) b in (
      λ h. walked.0 (c.into_ascending.ensures.only b (subst (λ bits. Contains bits b) c.from_vec.ensures h)),
      λ r. subst (λ bits. Contains bits b) (sym c.from_vec.ensures) (c.into_ascending.ensures.there b (walked.1 r)),
    )
