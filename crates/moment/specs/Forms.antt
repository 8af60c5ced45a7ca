-- The bit of a time field that says its form.
use Rattle.std.specs.Prelude.{ℕ}
use Rattle.moment.specs.declared.Form.{Form}
use Rattle.moment.specs.declared.Form.TheVariants.{Short, Long}

abbrev pub form_bit : Form → ℕ
form_bit Short = 0
form_bit Long = 1
