use Rattle.std.proofs.Common.{ℕ, ◌≡◌, ◌+◌, min, ap, ◌∙◌, rules}
use Rattle.codes.specs.Codes.{get_uniform}
use Rattle.getbits.specs.declared.Read.{Read}
use Rattle.superblocks.proofs.Counts.{uniform_fits}
use Rattle.superblocks.proofs.read_size.Goals as goal

-- what is read
read : (c : goal.After-struct_known-1) → let a = c.args in c.get_uniform-g.result ≡ get_uniform a.s.now a.p (min a.rest.0 a.limit.0)
read c =
    let a = c.args in
    c.get_uniform-g.ensures ∙ ap (get_uniform a.s.now a.p) c.min.ensures

pub overflow_add-result : goal.overflow_add-result
overflow_add-result c = record { fits = rw (read c) (uniform_fits _ _ _ (search rules)) }

pub returns : goal.returns
returns c =
    let e = read c in
    (ap (λ (x : Read ℕ). x.value + 1) e, ap (λ (x : Read ℕ). x.next) e)
