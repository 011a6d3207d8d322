use Rattle.std.proofs.Common.{◌≡◌, sym, ◌∙◌, ap, subst, take, drop}
use Rattle.mdl_tree.specs.Text.{LineForm, Faulty, Whole, named_form}
use Rattle.mdl_reader.specs.Faults.{Answers}
use Rattle.mdl_reader.specs.Forms.{form_of}
use Rattle.mdl_reader.proofs.FormLemmas.{line_form-named}
use Rattle.mdl_reader.proofs.form.line_form.Goals as goal

pub returns-in-len1-up : goal.returns-in-len1-up
returns-in-len1-up c =
    let line = c.args.line in
    let text = c.args.text.now in
    let name = c.split_at.ensures.front ∙ ap (λ n. take n text) c.name_len.ensures.value in
    let behind = c.split_at.ensures.back ∙ ap (λ n. drop n text) c.name_len.ensures.value in
    let same = ap (λ n. named_form line n c.split_at.result.1.now) name ∙ ap (named_form line _) behind
    ∙ sym (line_form-named line text (sym c.is_name_byte.ensures ∙ c.if-is_name_byte.true)
    (sym c.is_ascii_digit.ensures.value ∙ c.if-not-is_ascii_digit.true)) in
    let Reads : LineForm → Type 0 = λ form.
    Answers c.named_form.result (λ found. form_of line found ≡ form) (λ told kind. form ≡ Whole (Faulty told kind)) in
    subst Reads same c.named_form.ensures
