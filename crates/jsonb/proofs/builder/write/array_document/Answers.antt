use Rattle.std.proofs.Common.{◌≡◌, [], refl, Err, rules}
use Rattle.std.specs.List.{AllByRecursion}
use Rattle.jsonb_value.specs.declared.error.Error.TheVariants.{InvalidJsonb, OutOfMemory}
use Rattle.jsonb_codec.specs.Shape.{array}
use Rattle.jsonb_codec.specs.Stored.{shapes_by}
use Rattle.jsonb.proofs.SameEntryLaws.{array_made, array_fits}
use Rattle.jsonb.proofs.builder.write.array_document.Goals as goal

pub returns-then-not-are_stored-clause-past : goal.returns-then-not-are_stored-clause-past
returns-then-not-are_stored-clause-past g c = λ e xs shown fit.
    let s = g.T.Stored in
    let all = (array_fits s.stored s.code c.args.values.now xs shown fit).0 in
    search rules

pub append_document-requires : goal.append_document-requires
append_document-requires g c =
    let s = g.T.Stored in
    let all : AllByRecursion s.stored c.args.values.now = search rules in
    (_, (shapes_by (λ x. []) s.code c.args.values.now, (refl, record { all = all; shapes = refl })))

pub returns-in_err-append_document-clause-past : goal.returns-in_err-append_document-clause-past
returns-in_err-append_document-clause-past g c = λ e xs shown fit.
    let s = g.T.Stored in
    let (all, fits) = array_fits s.stored s.code c.args.values.now xs shown fit in
    let past : c.append_document.result ≡ Err InvalidJsonb = search rules in
    c.append_document.ensures.past.0 past _ (_, (refl, record { all = all; shapes = refl })) fits

pub returns-in_err-append_document-clause-memory :
    goal.returns-in_err-append_document-clause-memory
returns-in_err-append_document-clause-memory g c = λ e xs shown.
    let s = g.T.Stored in
    let all : AllByRecursion s.stored c.args.values.now = search rules in
    let memory : c.append_document.result ≡ Err OutOfMemory = search rules in
    let fits = c.append_document.ensures.memory memory _
    (_, (refl, record { all = all; shapes = refl })) in
    (array_made s.stored s.code c.args.values.now xs shown all fits).fit

pub returns-clause-ok : goal.returns-clause-ok
returns-clause-ok g c = λ xs shown.
    let s = g.T.Stored in
    let all : AllByRecursion s.stored c.args.values.now = search rules in
    let (fits, made) = c.in_ok-append_document.ensures.appended
    (array (shapes_by (λ x. []) s.code c.args.values.now))
    (_, (refl, record { all = all; shapes = refl })) in
    rw (c.new.ensures, made, c.new-bytes.ensures.items)
    (array_made s.stored s.code c.args.values.now xs shown all fits)
