use Rattle.kit_words.proofs.Common.{◌+◌, ◌^◌, ◌%◌}
use Rattle.segment_sets.proofs.Lines.{line-is, lines-ordered}
use Rattle.segment_sets.proofs.region.Region.cover.Goals as goal

pub returns-clause-value : goal.returns-clause-value
returns-clause-value c =
    let i = c.rect.invariant in
    let f = c.extent.invariant in
    let width = 2 ^ (c.args.self.now.wide % 64) in
    let height = 2 ^ (c.args.self.now.high % 64) in
    let left = line-is c.args.self.now.columns c.rect.inside.x0 c.extent.inside.x0 width c.line.result i.least.across f.least.across c.line.ensures.value in
    let right = line-is c.args.self.now.columns c.rect.inside.x1 c.extent.inside.x0 width c.line-2.result i.most.across f.least.across c.line-2.ensures.value in
    let low = line-is c.args.self.now.rows c.rect.inside.y0 c.extent.inside.y0 height c.line-3.result i.least.upward f.least.upward c.line-3.ensures.value in
    let high = line-is c.args.self.now.rows c.rect.inside.y1 c.extent.inside.y0 height c.line-4.result i.most.upward f.least.upward c.line-4.ensures.value in
    rw (← c.rect.view_is, ← c.extent.view_is) (λ k. record { left = left k; right = right k + 1; low = low k; high = high k + 1 })

pub returns-clause-across : goal.returns-clause-across
returns-clause-across c =
    let i = c.rect.invariant in
    let f = c.extent.invariant in
    let width = 2 ^ (c.args.self.now.wide % 64) in
    let left = line-is c.args.self.now.columns c.rect.inside.x0 c.extent.inside.x0 width c.line.result i.least.across f.least.across c.line.ensures.value in
    let right = line-is c.args.self.now.columns c.rect.inside.x1 c.extent.inside.x0 width c.line-2.result i.most.across f.least.across c.line-2.ensures.value in
    lines-ordered c.args.self.now.columns c.extent.inside.x0 c.rect.inside.x0 c.rect.inside.x1 (c.args.self.now.wide % 64) c.line.result c.line-2.result left right i.across

pub returns-clause-upward : goal.returns-clause-upward
returns-clause-upward c =
    let i = c.rect.invariant in
    let f = c.extent.invariant in
    let height = 2 ^ (c.args.self.now.high % 64) in
    let low = line-is c.args.self.now.rows c.rect.inside.y0 c.extent.inside.y0 height c.line-3.result i.least.upward f.least.upward c.line-3.ensures.value in
    let high = line-is c.args.self.now.rows c.rect.inside.y1 c.extent.inside.y0 height c.line-4.result i.most.upward f.least.upward c.line-4.ensures.value in
    lines-ordered c.args.self.now.rows c.extent.inside.y0 c.rect.inside.y0 c.rect.inside.y1 (c.args.self.now.high % 64) c.line-3.result c.line-4.result low high i.upward
