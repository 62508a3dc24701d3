use Rattle.std.proofs.Common.{◌≡◌, ◌∙◌, ◌<◌, ◌++◌, ℕ, cond, [], Option, List, filter, length, sym, ap, arith, inl, inr}
use Rattle.std.proofs.lemmas.List.{with_items_is}
use Rattle.std.specs.List.{range_with_len}
use Rattle.std.specs.Option.{option_to_list}
use Rattle.std.specs.Vec.{with_items}
use Rattle.tf_config_data.specs.Names.{meant_at}
use Rattle.tf_config_names.specs.Needs.{needs_in}
use Rattle.tf_config_names.specs.Table.{names_in}
use Rattle.tf_walk_buffers.proofs.Pairs.{found-more}
use Rattle.tf_walk_buffers.specs.Dependencies.{address_of, addresses_at}
use Rattle.tf_walk_buffers.proofs.needed.needed_lists.Goals as goal

pub loop-place-preserved : goal.loop-place-preserved
loop-place-preserved c =
    let l = c.loop-place in
    let names = names_in c.args.names.now in
    let needs = needs_in c.args.dependence.now in
    let address : ℕ → Option (List ℕ) = λ m. address_of (meant_at names m) in
    let lists = c.as_mut_slice.ensures.value in
    let more = with_items l.lists c.note_needed.new.lists in
    let is : more.items ≡ c.note_needed.new.lists = with_items_is l.lists c.note_needed.new.lists (omega (arith, c.note_needed.ensures.count)) in
    let below : l.place < length names = omega (arith, c.loop-place-test.true, c.len-place-end.ensures) in
    rw is (record {
      count = (rw lists at c.note_needed.ensures.count) ∙ l.invariant.count;
      within = λ p m h. elim (c.in_ok-note_needed.ensures.within p m h) [ inl old ↦ l.invariant.within p m (rw lists at old) | inr here ↦ rw here below ];
      listed = λ p asked.
          (rw lists at (c.in_ok-note_needed.ensures.added p asked)) ∙ ap (λ texts. texts ++ cond (needs p l.place) (option_to_list (address l.place)) []) (l.invariant.listed p asked) ∙ sym (found-more address (needs p) l.place);
    })

pub returns : goal.returns
returns c =
    let l = c.loop-place in
    let names = names_in c.args.names.now in
    let needs = needs_in c.args.dependence.now in
    let whole : l.place ≡ length names = omega (arith, c.loop-place-test.false, c.loop-place.auto.place-end, c.len-place-end.ensures) in
    λ p below asked. record {
      inside = omega (arith, below, l.invariant.count);
      within = l.invariant.within p;
      listed = l.invariant.listed p asked ∙ ap (λ (n : ℕ). addresses_at names (filter (needs p) (range_with_len 0 n))) whole;
    }
