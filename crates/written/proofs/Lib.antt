mod PutLaws
mod PassLaws
mod WriteLaws
mod PieceLaws
mod GoingLaws
mod CallLaws
mod RunLaws
