-- A plan has one list of changes of outputs.
use Rattle.std.proofs.Common.{◌≡◌, ℕ, List, [], ◌∷◌, Option, Some, None, map, refl, sym, ap, ap₂, subst, ◌∙◌}
use Rattle.std.specs.List.{AllByRecursion}
use Rattle.tf_expr_syntax.specs.ExprTree as expr
use Rattle.tf_plan_data.specs.Plan.{PlanView}
use Rattle.tf_plan_outputs.specs.Changes.{IsAfter, IsOutputChange, IsPlannedValue, OutputChangeView}
use Rattle.tf_plan_outputs.specs.Laws.{ChangesAreOne}
use Rattle.tf_value_data.specs.Tree.{Tree, get}

value_one : (plan : PlanView) (e : expr.Tree) (t u : Tree) → IsPlannedValue plan e t → IsPlannedValue plan e u → t ≡ u
value_one plan e t u a b = a.means b.resolved_names b.planned ∙ sym (b.means b.resolved_names b.planned)

after_one : (plan : PlanView) (o : Option expr.Tree) (x y : Option Tree) → IsAfter plan o x → IsAfter plan o y → x ≡ y
after_one plan None x y a b = a ∙ sym b
after_one plan (Some e) None y a b = absurd a
after_one plan (Some e) (Some t) None a b = absurd b
after_one plan (Some e) (Some t) (Some u) a b = ap Some (value_one plan e t u a b)

abbrev change : List ℕ → Option Tree → Option Tree → OutputChangeView
change name before after = record { name = name; before = before; after = after }

change_one : (plan : PlanView) (c d : OutputChangeView) → c.name ≡ d.name → IsOutputChange plan c → IsOutputChange plan d → c ≡ d
change_one plan c d named a b =
    let before : c.before ≡ d.before = a.before ∙ ap (λ n. get n plan.prior.outputs) named ∙ sym b.before in
    let after : c.after ≡ d.after =
    after_one plan (expr.get d.name plan.config.outputs) c.after d.after (subst (λ n. IsAfter plan (expr.get n plan.config.outputs) c.after) named a.after) b.after in
    ap (λ n. change n c.before c.after) named ∙ ap (λ o. change d.name o c.after) before ∙ ap (change d.name d.before) after

each_one : (plan : PlanView) (cs ds : List OutputChangeView) → map (λ c. c.name) cs ≡ map (λ c. c.name) ds → AllByRecursion (IsOutputChange plan) cs → AllByRecursion (IsOutputChange plan) ds → cs ≡ ds
each_one plan [] [] same a b = refl
each_one plan [] (d ∷ ds) same a b = absurd (cc)
each_one plan (c ∷ cs) [] same a b = absurd (cc)
each_one plan (c ∷ cs) (d ∷ ds) same a b =
    let named : c.name ≡ d.name = (cc) in
    let others : map (λ c. c.name) cs ≡ map (λ c. c.name) ds = (cc) in
    ap₂ (λ x xs. x ∷ xs) (change_one plan c d named a.0 b.0) (each_one plan cs ds others a.1 b.1)

pub changes_one : ChangesAreOne
changes_one plan cs ds a b = each_one plan cs ds (a.names ∙ sym b.names) a.each b.each
