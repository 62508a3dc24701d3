-- The forms of what lines tell read back, and are those of lines.
use Rattle.std.proofs.Common.{◌≡◌, ◌≤◌, ◌&&◌, ℕ, List, true, Option, Some, None, nat_le, refl, ap, subst, ◌∙◌, arith}
use Rattle.std.proofs.lemmas.Bool.{leb-true}
use Rattle.std.specs.Prelude.{option_and_then}
use Rattle.serde_json.specs.Data as json
use Rattle.serde_json.specs.Read.{max_depth}
use Rattle.tf_provider_protocol.specs.Meaning.{Asked, Answer, object, gone, failed}
use Rattle.tf_provider_protocol.specs.declared.request.Op.{Op}
use Rattle.tf_provider_protocol.specs.declared.request.Op.TheVariants as op
use Rattle.tf_value_json.specs.Json.{tree_from}
use Rattle.tf_value_data.specs.Measure.{depth}
use Rattle.tf_value_data.specs.Sets.{has_no_set}
use Rattle.tf_value_data.specs.Tree.{Tree, IsHeld}
use Rattle.tf_value_data.proofs.Conjunction.{and-first, and-second}
use Rattle.tf_provider_log.specs.LogEntry.{LogEntryView, begun, replied, HeaderView}
use Rattle.tf_provider_log.specs.Fit.{fits, option_fits, request_fits, answer_fits}
use Rattle.tf_provider_log.specs.Form.{value_form, text_form, option_form, op_word, request_form, reply_form, entry_form, header_form}
use Rattle.tf_provider_log.specs.From.{option_text_from, option_from, op_from, request_from, reply_from, entry_from, header_from}
use Rattle.tf_provider_log.specs.Line.{IsEntryLine, IsHeaderLine, header_in, tree_in}
use Rattle.tf_provider_log.specs.Text.{IsSimple, IsTreeLine, IsOptionHeld, IsRequestHeld, IsAnswerHeld}
use Rattle.tf_provider_log.proofs.Formed.{simple_form, depth_form, form_reads}

-- ---- the parts

op_reads : (what : Op) → op_from (Some (json.string (op_word what))) ≡ Some what
op_reads op.Create = refl
op_reads op.Update = refl
op_reads op.Destroy = refl

text_reads : (o : Option (List ℕ)) → option_text_from (Some (text_form o)) ≡ Some o
text_reads None = refl
text_reads (Some s) = refl

text_simple : (o : Option (List ℕ)) → IsSimple (text_form o)
text_simple None = tt
text_simple (Some s) = tt

text_depth : (o : Option (List ℕ)) → json.depth (text_form o) ≤ 0
text_depth None = omega arith
text_depth (Some s) = omega arith

value_reads : (t : Tree) → IsHeld t → fits t ≡ true → tree_from (value_form t) ≡ t
value_reads t h e = form_reads t h (and-first (has_no_set t) (nat_le (depth t) 100) e)

value_depth : (t : Tree) → fits t ≡ true → json.depth (value_form t) ≤ 100
value_depth t e =
    let shallow : depth t ≤ 100 = leb-true (depth t) 100 (and-second (has_no_set t) (nat_le (depth t) 100) e) in
    let below = depth_form t in omega arith

option_reads : (o : Option Tree) → IsOptionHeld o → option_fits o ≡ true → option_from (Some (option_form o)) ≡ Some o
option_reads None h e = refl
option_reads (Some t) h e = ap (λ u. Some (Some u)) (value_reads t h e)

option_simple : (o : Option Tree) → IsOptionHeld o → IsSimple (option_form o)
option_simple None h = tt
option_simple (Some t) h = (simple_form t h, tt)

option_depth : (o : Option Tree) → option_fits o ≡ true → json.depth (option_form o) ≤ 101
option_depth None e = omega arith
option_depth (Some t) e = let below = value_depth t e in omega arith

-- ---- requests

request_reads : (r : Asked) → IsRequestHeld r → request_fits r ≡ true → request_from (request_form r) ≡ Some r
request_reads r h e =
    let prior = option_reads r.prior h.0 (and-first (option_fits r.prior) (option_fits r.object) e) in
    let wanted = option_reads r.object h.1 (and-second (option_fits r.prior) (option_fits r.object) e) in
    rw (op_reads r.op, text_reads r.deposed, prior, wanted) refl

request_simple : (r : Asked) → IsRequestHeld r → IsSimple (request_form r)
request_simple r h = (tt, (text_simple r.deposed, (option_simple r.object h.1, (tt, (option_simple r.prior h.0, (tt, tt))))))

request_depth : (r : Asked) → request_fits r ≡ true → json.depth (request_form r) ≤ 102
request_depth r e =
    let prior = option_depth r.prior (and-first (option_fits r.prior) (option_fits r.object) e) in
    let wanted = option_depth r.object (and-second (option_fits r.prior) (option_fits r.object) e) in
    let key = text_depth r.deposed in omega arith

-- ---- replies

reply_reads : (a : Option Answer) → IsAnswerHeld a → answer_fits a ≡ true → reply_from (reply_form a) ≡ Some a
reply_reads None h e = refl
reply_reads (Some (object t)) h e = ap (λ u. Some (Some (object u))) (value_reads t h e)
reply_reads (Some gone) h e = refl
reply_reads (Some (failed message t)) h e = rw (option_reads t h e) refl

reply_simple : (a : Option Answer) → IsAnswerHeld a → IsSimple (reply_form a)
reply_simple None h = tt
reply_simple (Some (object t)) h = (simple_form t h, tt)
reply_simple (Some gone) h = tt
reply_simple (Some (failed message t)) h = (tt, (option_simple t h, tt))

reply_depth : (a : Option Answer) → answer_fits a ≡ true → json.depth (reply_form a) ≤ 102
reply_depth None e = omega arith
reply_depth (Some (object t)) e = let below = value_depth t e in omega arith
reply_depth (Some gone) e = omega arith
reply_depth (Some (failed message t)) e = let below = option_depth t e in omega arith

-- ---- lines

entry_line : (entry : LogEntryView) (text : List ℕ) → entry_from (entry_form entry) ≡ Some entry → IsTreeLine (entry_form entry) text → IsEntryLine entry text
entry_line entry text reads is = record {
  line = is.line;
  in_line = is.in_line;
  tells = ap (option_and_then entry_from) is.reads ∙ reads;
  is_text = is.is_text;
}

pub begun_is_line : (r : Asked) (d : json.Data) (text : List ℕ) → IsRequestHeld r → request_fits r ≡ true → d ≡ entry_form (begun r) → (IsSimple d → json.depth d ≤ max_depth → IsTreeLine d text) → IsEntryLine (begun r) text
begun_is_line r d text held fit is line =
    let at : IsSimple (entry_form (begun r)) → json.depth (entry_form (begun r)) ≤ max_depth → IsTreeLine (entry_form (begun r)) text = subst (λ x. IsSimple x → json.depth x ≤ max_depth → IsTreeLine x text) is line in
    let below = request_depth r fit in
    entry_line (begun r) text (rw (request_reads r held fit) refl) (at (request_simple r held, tt) (omega arith))

pub replied_is_line : (r : Asked) (a : Option Answer) (d : json.Data) (text : List ℕ) → IsRequestHeld r → IsAnswerHeld a → (request_fits r && answer_fits a) ≡ true → d ≡ entry_form (replied r a) → (IsSimple d → json.depth d ≤ max_depth → IsTreeLine d text) → IsEntryLine (replied r a) text
replied_is_line r a d text held answer_held both is line =
    let fit = and-first (request_fits r) (answer_fits a) both in
    let answer_fit = and-second (request_fits r) (answer_fits a) both in
    let at : IsSimple (entry_form (replied r a)) → json.depth (entry_form (replied r a)) ≤ max_depth → IsTreeLine (entry_form (replied r a)) text = subst (λ x. IsSimple x → json.depth x ≤ max_depth → IsTreeLine x text) is line in
    let below = request_depth r fit in
    let reply_below = reply_depth a answer_fit in
    entry_line (replied r a) text (rw (request_reads r held fit, reply_reads a answer_held answer_fit) refl) (at (request_simple r held, (reply_simple a answer_held, tt)) (omega arith))

header_reads : (h : HeaderView) → header_from (header_form h) ≡ Some h
header_reads h = rw (text_reads h.state, text_reads h.vars) refl

header_tells : (h : HeaderView) (line : List ℕ) → tree_in line ≡ Some (header_form h) → header_in line ≡ Some h
header_tells h line is = ap (option_and_then header_from) is ∙ header_reads h

pub header_is_line : (h : HeaderView) (d : json.Data) (text : List ℕ) → d ≡ header_form h → (IsSimple d → json.depth d ≤ max_depth → IsTreeLine d text) → IsHeaderLine h text
header_is_line h d text form line =
    let at : IsSimple (header_form h) → json.depth (header_form h) ≤ max_depth → IsTreeLine (header_form h) text = subst (λ x. IsSimple x → json.depth x ≤ max_depth → IsTreeLine x text) form line in
    let state = text_depth h.state in
    let vars = text_depth h.vars in
    let is = at (tt, (tt, (text_simple h.state, (text_simple h.vars, (omega arith, tt))))) (omega arith) in
    record { line = is.line; in_line = is.in_line; tells = header_tells h is.line is.reads; is_text = is.is_text }
