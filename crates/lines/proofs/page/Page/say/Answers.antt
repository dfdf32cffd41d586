-- `say` meets its contract: each token is put after a space.
use Rattle.lines.proofs.Items.{put_said, put_nothing}
use Rattle.lines.proofs.page.Page.say.Goals as goal

pub returns-in-None : goal.returns-in-None
returns-in-None c =
    put_said (c.in-None.ensures c.args.self.now.text.now) (put_nothing c.args.self.now)
