-- A schema's attributes, one after another.
use Rattle.std.proofs.Common.{◌≡◌, ◌<◌, ℕ, ◌+◌, true, List, ◌∷◌, ◌++◌, length, get_or, drop, fold, Option, None, Result, Ok, Err, refl, ap, ◌∙◌, add-one}
use Rattle.std.proofs.Math.Seq.{drop-cons}
use Rattle.tf_expr_syntax.specs.ExprTree as expr
use Rattle.tf_provider_protocol.specs.Schema.{AttributeView, ascends}
use Rattle.tf_value_data.specs.Tree.{Tree, Entries}
use Rattle.tf_expr_eval.specs.Environment.{Environment}
use Rattle.tf_plan_object.specs.Argument.{attribute_value}
use Rattle.tf_plan_object.specs.Planned.{NamedFaultView, fault_at, attribute_faults, planned_entries, sooner}
use Rattle.tf_plan_object.specs.Stepped.{put_value}
use Rattle.tf_plan_object.specs.declared.argument.ArgumentFault.{ArgumentFault}
use Rattle.tf_plan_object.proofs.Entries.{onto, keys_below, onto-put_value, keys_below-put_value, ascends-tail}

-- what is left from a place on begins with what stands there
pub drop-item : {A : Type 0} (xs : List A) (i : ℕ) (x : A) → i < length xs → x ≡ get_or xs i x → drop i xs ≡ x ∷ drop (i + 1) xs
drop-item xs i x h e = drop-cons xs i x h ∙ rw (← e, add-one) refl

-- the values and faults so far, with those of the attributes that are left, are those of all
pub record IsSoFar (es : Entries) (found : Option NamedFaultView) (left all : List AttributeView) (env : Environment) (arguments : expr.Entries) : Type 0 where
  pub object : onto es (planned_entries left env arguments) ≡ planned_entries all env arguments
  pub fault : fold sooner found (attribute_faults left env arguments) ≡ fold sooner None (attribute_faults all env arguments)
  pub below : keys_below es left ≡ true
  pub ascending : ascends left ≡ true

faults_step : (found : Option NamedFaultView) (name : List ℕ) (planned : Result Tree ArgumentFault) (rest : List NamedFaultView)
    → fold sooner (fold sooner found (fault_at name planned)) rest ≡ fold sooner found (fault_at name planned ++ rest)
faults_step found name (Ok t) rest = refl
faults_step found name (Err fault) rest = refl

-- one more attribute
pub so_far-step : (es es' : Entries) (found found' : Option NamedFaultView) (a : AttributeView) (left all : List AttributeView) (env : Environment) (arguments : expr.Entries)
    → IsSoFar es found (a ∷ left) all env arguments
    → es' ≡ put_value a.name (attribute_value env a (expr.get a.name arguments)) es
    → found' ≡ fold sooner found (fault_at a.name (attribute_value env a (expr.get a.name arguments)))
    → IsSoFar es' found' left all env arguments
so_far-step es es' found found' a left all env arguments h e f =
    let planned = attribute_value env a (expr.get a.name arguments) in
    record {
      object = ap (λ (x : Entries). onto x (planned_entries left env arguments)) e ∙ (onto-put_value es a left planned (planned_entries left env arguments) h.below ∙ h.object);
      fault = ap (λ (x : Option NamedFaultView). fold sooner x (attribute_faults left env arguments)) f ∙ (faults_step found a.name planned (attribute_faults left env arguments) ∙ h.fault);
      below = rw e (keys_below-put_value es a left planned h.below h.ascending);
      ascending = ascends-tail a left h.ascending;
    }
