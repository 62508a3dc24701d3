-- Values put over others, one by one and object by object.
use Rattle.std.proofs.Common.{◌≡◌, ◌++◌, List, [], ◌∷◌, Bool, true, false, true≢false, bytes_eq, Option, Some, None, cond, refl, sym, ap, ◌∙◌, subst}
use Rattle.std.proofs.lemmas.Slice.Eq.{bytes_eq-Decides}
use Rattle.serde_json.specs.Data.{Data, Members, no_members, member, put}
use Rattle.serde_json.specs.Find.{get_member}
use Rattle.serde_json.proofs.Views.{get_member-put, get_member-put_other}
use Rattle.tf_cli_variables.specs.Merge.{last_value, member_value, or_value, put_all, put_each}
use Rattle.tf_cli_variables.specs.Values.{Text}

-- one more object is put over the others
pub put_all-more : (given : List Members) (last values : Members) → put_all (given ++ last ∷ []) values ≡ put_each last (put_all given values)
put_all-more [] last values = refl
put_all-more (first ∷ given) last values = put_all-more given last (put_each first values)

or_value-assoc : (a b c : Option Data) → or_value (or_value a b) c ≡ or_value a (or_value b c)
or_value-assoc (Some x) b c = refl
or_value-assoc None b c = refl

or_value-none : (a : Option Data) → or_value a None ≡ a
or_value-none (Some x) = refl
or_value-none None = refl

put_value_at : (b : Bool) (q k : Text) (d : Data) (ms : Members) → bytes_eq q k ≡ b → get_member q (put k d ms) ≡ or_value (cond b (Some d) None) (get_member q ms)
put_value_at true q k d ms e = subst (λ name. get_member name (put k d ms) ≡ Some d) (sym ((bytes_eq-Decides q k).0 e)) (get_member-put k d ms)
put_value_at false q k d ms e = get_member-put_other q k d ms (λ same. absurd (true≢false (sym ((bytes_eq-Decides q k).1 same) ∙ e)))

-- a value after an object was put over others: the object's, if it has one
put_each-value : (ms values : Members) (q : Text) → get_member q (put_each ms values) ≡ or_value (member_value q ms) (get_member q values)
put_each-value no_members values q = refl
put_each-value (member k v more) values q =
    put_each-value more (put k v values) q
    ∙ ap (or_value (member_value q more)) (put_value_at (bytes_eq q k) q k v values refl)
    ∙ sym (or_value-assoc (member_value q more) (cond (bytes_eq q k) (Some v) None) (get_member q values))

put_all-value : (given : List Members) (values : Members) (q : Text) → get_member q (put_all given values) ≡ or_value (last_value q given) (get_member q values)
put_all-value [] values q = refl
put_all-value (first ∷ later) values q =
    put_all-value later (put_each first values) q
    ∙ ap (or_value (last_value q later)) (put_each-value first values q)
    ∙ sym (or_value-assoc (last_value q later) (member_value q first) (get_member q values))

-- each name has the value of the last object that has it
pub put_all-last : (given : List Members) (q : Text) → get_member q (put_all given no_members) ≡ last_value q given
put_all-last given q = put_all-value given no_members q ∙ or_value-none (last_value q given)
