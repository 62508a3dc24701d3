use Rattle.tf_value_json.proofs.Forms.{IsJson-one_form, IsJson-one_value, IsJson-known, form_of}
use Rattle.tf_value_json.proofs.ListForms.{lists-data}
use Rattle.tf_value_json.proofs.laws.forms_are_one.Goals as goal

pub returns : goal.returns
returns c = record { one_form = IsJson-one_form; one_value = IsJson-one_value; known = IsJson-known; formed = form_of; lists = lists-data }
