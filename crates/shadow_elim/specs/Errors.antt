-- Errors of terms as errors of eliminations.
use Rattle.linear_formula.specs.declared.error.LinError.{LinError}
use Rattle.linear_formula.specs.declared.error.LinError.TheVariants as lin
use Rattle.shadow_elim.specs.declared.shadow.ShadowError.{ShadowError}
use Rattle.shadow_elim.specs.declared.shadow.ShadowError.TheVariants as shadow

abbrev pub shadow_error_of : LinError → ShadowError
shadow_error_of lin.Wide = shadow.Wide
shadow_error_of lin.Memory = shadow.Memory
