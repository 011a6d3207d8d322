-- The form of a line in memory, as the form that a line has.
use Rattle.std.specs.Prelude.{ℕ, true, false}
use Rattle.mdl_tree.specs.Text as text
use Rattle.mdl_tree.specs.Text.{LineForm, Whole, Sets, Adds}
use Rattle.mdl_reader.specs.declared.form.Form.{Form}
use Rattle.mdl_reader.specs.declared.form.Form.TheVariants.{Empty, Opens, Closes, Plain, Quoted, Further, Begins}

-- the form of a line of this number
abbrev pub form_of : ℕ → Form → LineForm
form_of line Empty = text.Empty
form_of line (Opens name) = Whole (text.Opens line name.now)
form_of line Closes = Whole (text.Closes line)
form_of line (Plain name value) = Whole (Sets line name.now value.now false)
form_of line (Quoted name value) = Whole (Sets line name.now value.items true)
form_of line (Further value) = Whole (Adds line value.items)
form_of line (Begins name value) = text.Begins name.now value.now
