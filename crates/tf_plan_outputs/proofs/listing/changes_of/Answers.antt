use Rattle.std.proofs.Common.{◌≡◌, ◌++◌, [], ◌∷◌, sym, ap, ◌∙◌, rules}
use Rattle.std.proofs.lemmas.List.{append-nil}
use Rattle.tf_expand_keys.specs.Resolved.{ResolvedView}
use Rattle.tf_plan_data.specs.Plan.{plan_names, plan_of}
use Rattle.tf_plan_outputs.proofs.Listed.{each_more, names_more, names_of}
use Rattle.tf_plan_outputs.specs.Objects.{objects_planned}
use Rattle.tf_value_data.specs.Tree.{texts_view}
use Rattle.tf_walk_names.proofs.Shared.{none_answered}
use Rattle.tf_plan_outputs.proofs.listing.changes_of.Goals as goal

pub loop-name-init : goal.loop-name-init
loop-name-init c =
    let plan = plan_of c.args.plan.now in
    let none : c.new-made.result.items ≡ [] = search rules in
    let all : c.into_iter-name-iterator.result ≡ c.in_ok-listed.listed.keys = search rules in
    record {
      names = rw none (ap texts_view all ∙ c.in_ok-listed.ensures);
      each = rw none tt;
      so_far = none_answered plan.variables (plan_names plan) plan.shapes (objects_planned plan) c.new-resolved.result.items c.new-resolved.ensures.items;
    }

pub loop-name-preserved : goal.loop-name-preserved
loop-name-preserved c =
    let plan = plan_of c.args.plan.now in
    let old = c.loop-name in
    let made = c.in_ok-change_of.field-0 in
    record {
      names = names_more old.made.items c.push.new.self.items made old.name-iterator c.next.new.self c.in-Some.name c.in_ok-push.ensures.items c.in-Some.ensures.steps c.in_ok-change_of.ensures.name ∙ old.invariant.names;
      each = each_more plan old.made.items c.push.new.self.items made c.in_ok-push.ensures.items c.in_ok-change_of.ensures.change old.invariant.each;
      so_far = c.change_of.ensures.so_far;
    }

pub returns : goal.returns
returns c =
    let left : c.loop-name.name-iterator ≡ [] = search rules in
    record {
      names = sym (append-nil (names_of c.loop-name.made.items)) ∙ ap (λ ks. names_of c.loop-name.made.items ++ texts_view ks) (sym left) ∙ c.loop-name.invariant.names;
      each = c.loop-name.invariant.each;
    }
